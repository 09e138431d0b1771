-- The sources that are read of a printed section.
use Rattle.std.proofs.Common.{◌≡◌, ℕ, List, [], ◌∷◌, ◌++◌, map, filter_map, Option, Some, None, refl, ◌∙◌}
use Rattle.std.proofs.Common.{ap, append-nil, option_map, ◌==◌, ◌||◌, Bool, true, false, arith, if◌then◌else◌}
use Rattle.std.specs.List.{cons_option, last_or}
use Rattle.std.specs.Option.{option_flatten}
use Rattle.std.proofs.lemmas.Bool.Decides.{nat_tests}
use Rattle.std.proofs.lemmas.List.Elements.{filter_map-append}
use Rattle.rtp_media_sections.specs.Extensions.{extmap_line}
use Rattle.rtp_media_sections.specs.Lines.{pair_line, row_lines, source_line, source_lines, source_of, sources_in}
use Rattle.rtp_media_sections.specs.Repairs.{is_among, pair_of, repairs_in}
use Rattle.rtp_media_sections.proofs.RepairPairs.{behind}
use Rattle.rtp_media_sections.specs.declared.sections.Source.{Source}
use Rattle.rtp_wire.specs.declared.direction.Direction.{Direction}
use Rattle.rtp_wire.specs.declared.direction.Direction.TheVariants as way
use Rattle.rtp_wire.specs.declared.extension.Extension.{Extension}
use Rattle.sdp_formats_reader.specs.AsRead.{as_read}
use Rattle.sdp_formats_data.specs.Media.{direction_attribute}
use Rattle.sdp_formats_data.specs.declared.media.MediaAttribute.{MediaAttribute}
use Rattle.sdp_formats_data.specs.declared.media.MediaAttribute.TheVariants as line
use Rattle.sdp_formats_data.specs.Distinct.{distinct}
use Rattle.sdp_formats_data.specs.Sources.{info_of, repair_in, repaired_if, repairing_in, source_in}
use Rattle.sdp_formats_rows.specs.Rows.{Row}
use Rattle.sdp_formats_rounds.specs.Members.{IsEach}
use Rattle.rtp_media_sections.proofs.Distincts.{distinct_among}
use Rattle.rtp_media_sections.proofs.Quiet.{OfSources, of_sources}
use Rattle.rtp_media_sections.specs.PrintedSections.{source_with, sources_read}

-- what a line is read as gives the same
source_same : (a : MediaAttribute) → source_in (as_read a) ≡ source_in a
unfolding source_in
source_same (line.Fmtp pt values) = refl
source_same _ = refl

repair_same : (a : MediaAttribute) → repair_in (as_read a) ≡ repair_in a
unfolding repair_in
repair_same (line.Fmtp pt values) = refl
repair_same _ = refl

values_same : {B : Type 0} (f : MediaAttribute → Option B) → ((a : MediaAttribute) → f (as_read a) ≡ f a)
    → (attrs : List MediaAttribute) → filter_map f (map as_read attrs) ≡ filter_map f attrs
values_same f e [] = refl
values_same f e (a ∷ attrs) = (λ i. cons_option (e a i) (values_same f e attrs i))

-- the lines of sources give these, and no other line does
source_lines_alone : OfSources source_in
unfolding source_in
source_lines_alone = record {
  extmap = λ id ext. refl;
  rtpmap = λ pt value. refl;
  rtcp_fb = λ pt value. refl;
  fmtp = λ pt values. refl;
}

source_front : (mid : List ℕ) (d : Direction) (rest : List MediaAttribute)
    → filter_map source_in (line.Mid mid ∷ direction_attribute d ∷ rest) ≡ filter_map source_in rest
unfolding source_in
source_front mid way.SendOnly rest = refl
source_front mid way.RecvOnly rest = refl
source_front mid way.SendRecv rest = refl
source_front mid way.Inactive rest = refl

numbers_in : (sources : List Source)
    → filter_map source_in (map source_line sources) ≡ map (λ source. source.ssrc) sources
unfolding source_in
numbers_in [] = refl
numbers_in (s ∷ sources) = ap (λ l. s.ssrc ∷ l) (numbers_in sources)

no_numbers : (pairs : List (ℕ × ℕ)) → filter_map source_in (map pair_line pairs) ≡ []
unfolding source_in
no_numbers [] = refl
no_numbers (p ∷ pairs) = no_numbers pairs

numbers_of : (sources : List Source)
    → filter_map source_in (source_lines sources) ≡ map (λ source. source.ssrc) sources
numbers_of sources =
    filter_map-append source_in (map pair_line (repairs_in sources)) (map source_line sources)
    ∙ (λ i. no_numbers (repairs_in sources) i ++ numbers_in sources i)

-- groups let sources repair, and no other line does
module _ {B : Type 0} (f : ℕ × ℕ → Option B) where
  abbrev repairs : MediaAttribute → Option B
  repairs a = option_flatten (option_map f (repair_in a))

  repair_lines : OfSources repairs
  unfolding repair_in
  repair_lines = record {
    extmap = λ id ext. refl;
    rtpmap = λ pt value. refl;
    rtcp_fb = λ pt value. refl;
    fmtp = λ pt values. refl;
  }

  repair_front : (mid : List ℕ) (d : Direction) (rest : List MediaAttribute)
      → filter_map repairs (line.Mid mid ∷ direction_attribute d ∷ rest) ≡ filter_map repairs rest
  unfolding repair_in
  repair_front mid way.SendOnly rest = refl
  repair_front mid way.RecvOnly rest = refl
  repair_front mid way.SendRecv rest = refl
  repair_front mid way.Inactive rest = refl

  none_repair : (sources : List Source) → filter_map repairs (map source_line sources) ≡ []
  unfolding repair_in
  none_repair [] = refl
  none_repair (s ∷ sources) = none_repair sources

  each_repairs : (pairs : List (ℕ × ℕ)) → filter_map repairs (map pair_line pairs) ≡ filter_map f pairs
  unfolding repair_in
  each_repairs [] = refl
  each_repairs (p ∷ pairs) = ap (λ l. cons_option (f p) l) (each_repairs pairs)

  pairs_given : (sources : List Source) → filter_map repairs (source_lines sources) ≡ filter_map f (repairs_in sources)
  pairs_given sources =
      filter_map-append repairs (map pair_line (repairs_in sources)) (map source_line sources)
      ∙ (λ i. each_repairs (repairs_in sources) i ++ none_repair sources i)
      ∙ append-nil (filter_map f (repairs_in sources))

-- the SSRCs of pairs are those of sources
abbrev AreAmong : List ℕ → List ℕ → Type 0
AreAmong ns ms = IsEach (λ m. is_among ns m ≡ true) ms

among_more : (n : ℕ) (ns ms : List ℕ) → AreAmong ns ms → AreAmong (n ∷ ns) ms
among_more n ns [] h = tt
among_more n ns (m ∷ ms) h = (behind (n == m) (is_among ns m) h.0, among_more n ns ms h.1)

own_first : (n : ℕ) (ns : List ℕ) → is_among (n ∷ ns) n ≡ true
own_first n ns = let own : (n == n) ≡ true = grind (arith, nat_tests) in ap (λ b. b || is_among ns n) own

abbrev ssrcs : List Source → List ℕ
ssrcs sources = map (λ source. source.ssrc) sources

abbrev repairing : List (ℕ × ℕ) → List ℕ
repairing pairs = filter_map (λ (p : ℕ × ℕ). Some p.1) pairs

one_among : (ssrc : ℕ) (o : Option ℕ) (ns : List ℕ) (pairs : List (ℕ × ℕ)) → AreAmong (ssrc ∷ ns) (repairing pairs)
    → AreAmong (ssrc ∷ ns) (repairing (pair_of ssrc o ++ pairs))
one_among ssrc None ns pairs later = later
one_among ssrc (Some n) ns pairs later = unless (n == ssrc) later
  where
    unless : (b : Bool) → AreAmong (ssrc ∷ ns) (repairing pairs)
        → AreAmong (ssrc ∷ ns) (repairing ((if b then [] else (n, ssrc) ∷ []) ++ pairs))
    unless true later = later
    unless false later = (own_first ssrc ns, later)

repairing_among : (sources : List Source) → AreAmong (ssrcs sources) (repairing (repairs_in sources))
repairing_among [] = tt
repairing_among (s ∷ sources) =
    one_among s.ssrc s.repairs (ssrcs sources) (repairs_in sources)
    (among_more s.ssrc (ssrcs sources) (repairing (repairs_in sources)) (repairing_among sources))

-- the lines of a printed section
abbrev pub lines_with : List ℕ → Direction → List (ℕ × Extension) → List Row → List Source → List MediaAttribute
lines_with mid d exts rows sources = line.Mid mid ∷ direction_attribute d
    ∷ (map extmap_line exts ++ (row_lines rows ++ source_lines sources))

module _ (mid : List ℕ) (d : Direction) (exts : List (ℕ × Extension)) (rows : List Row) (sources : List Source) where
  abbrev lines : List MediaAttribute
  lines = lines_with mid d exts rows sources

  repairs_read : {B : Type 0} (f : ℕ × ℕ → Option B)
      → filter_map (λ a. option_flatten (option_map f (repair_in a))) (map as_read lines)
      ≡ filter_map f (repairs_in sources)
  repairs_read f =
      values_same (λ a. option_flatten (option_map f (repair_in a)))
      (λ a. ap (λ o. option_flatten (option_map f o)) (repair_same a)) lines
      ∙ repair_front f mid d _
      ∙ of_sources (λ a. option_flatten (option_map f (repair_in a))) (repair_lines f) exts rows (source_lines sources)
      ∙ pairs_given f sources

  sources_given : filter_map source_in (map as_read lines) ≡ map (λ source. source.ssrc) sources
  sources_given =
      values_same source_in source_same lines
      ∙ source_front mid d _
      ∙ of_sources source_in source_lines_alone exts rows (source_lines sources)
      ∙ numbers_of sources

  info_read : (n : ℕ) → source_of (info_of (map as_read lines) n) ≡ source_with (repairs_in sources) n
  info_read n = (λ i. record { ssrc = n; repairs = last_or None (repairs_read (repaired_if n) i) })

  infos_read : (ns : List ℕ)
      → map source_of (map (info_of (map as_read lines)) ns) ≡ map (source_with (repairs_in sources)) ns
  infos_read [] = refl
  infos_read (n ∷ ns) = (λ i. info_read n i ∷ infos_read ns i)

  flattened : (o : Option (ℕ × ℕ)) → option_map (λ (p : ℕ × ℕ). p.1) o
      ≡ option_flatten (option_map (λ (p : ℕ × ℕ). Some p.1) o)
  flattened None = refl
  flattened (Some p) = refl

  values_as : {B : Type 0} (f g : MediaAttribute → Option B) → ((a : MediaAttribute) → f a ≡ g a)
      → (attrs : List MediaAttribute) → filter_map f attrs ≡ filter_map g attrs
  values_as f g e [] = refl
  values_as f g e (a ∷ attrs) = (λ i. cons_option (e a i) (values_as f g e attrs i))

  repairing_read : filter_map repairing_in (map as_read lines)
      ≡ filter_map (λ (p : ℕ × ℕ). Some p.1) (repairs_in sources)
  repairing_read =
      values_as repairing_in (λ a. option_flatten (option_map (λ (p : ℕ × ℕ). Some p.1) (repair_in a)))
      (λ a. flattened (repair_in a)) (map as_read lines)
      ∙ repairs_read (λ p. Some p.1)

  -- The sources that are read are those of the section, each SSRC once, with the one that it repairs.
  pub sources_back : sources_in (map as_read lines) ≡ sources_read sources
  sources_back =
      infos_read (distinct (filter_map source_in (map as_read lines) ++ filter_map repairing_in (map as_read lines)))
      ∙ (λ i. map (source_with (repairs_in sources)) (distinct (sources_given i ++ repairing_read i)))
      ∙ ap (map (source_with (repairs_in sources)))
      (distinct_among (map (λ (source : Source). source.ssrc) sources) _ (repairing_among sources))

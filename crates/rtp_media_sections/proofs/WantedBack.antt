-- What is read of a wanted section names its SSRCs and its repairs.
use Rattle.std.proofs.Common.{◌≡◌, ℕ, ◌==◌, Bool, true, false, ◌||◌, List, [], ◌∷◌, ◌++◌, filter, map}
use Rattle.std.proofs.Common.{Some, None, refl, sym, ◌∙◌, ap, arith, filter_map, append-nil}
use Rattle.std.specs.Prelude.{if◌then◌else◌}
use Rattle.std.specs.List.{cons_option, last_or}
use Rattle.std.specs.Option.{is_none}
use Rattle.std.proofs.lemmas.Bool.{false≢true}
use Rattle.std.proofs.lemmas.Bool.Decides.{nat_tests}
use Rattle.std.proofs.lemmas.List.{map-append}
use Rattle.std.proofs.lemmas.List.Elements.{filter-append}
use Rattle.std.proofs.lemmas.Grind.{flat_map-append}
use Rattle.rtp_media_sections.proofs.RepairPairs.{behind, second_among, seconds, sound_pair}
use Rattle.rtp_media_sections.specs.Agreement.{is_named}
use Rattle.rtp_media_sections.specs.Answered.{answered_section}
use Rattle.rtp_media_sections.specs.Offered.{offered_section, plain_source, repair_source, sources_wanted}
use Rattle.rtp_media_sections.specs.Repairs.{are_sound_pairs, is_among, is_repairing, repair_in, repairs_in}
use Rattle.rtp_media_sections.specs.Sections.{Wanted, is_sound}
use Rattle.rtp_media_sections.specs.declared.sections.Source.{Source}
use Rattle.sdp_formats_data.specs.Distinct.{distinct}
use Rattle.sdp_formats_data.specs.Sources.{repaired_if}
use Rattle.sdp_formats_laws.proofs.Lists.{neither}
use Rattle.sdp_formats_rounds.specs.Members.{IsEach}
use Rattle.rtp_media_sections.proofs.Distincts.{AreNew, distinct_names, each_distinct, new_behind}
use Rattle.rtp_media_sections.specs.PrintedSections.{source_with, sources_read}
use Rattle.rtp_media_sections.specs.WantedSections.{AnsweredSectionsNameWanted, OfferedSectionsNameWanted}

-- one of them and none of them differ
differ : (ns : List ℕ) (m n : ℕ) → is_among ns m ≡ true → is_among ns n ≡ false → (m == n) ≡ false
differ ns m n e f = at (m == n) refl
  where
    at : (b : Bool) → (m == n) ≡ b → (m == n) ≡ false
    at false is = is
    at true is =
        let same : m ≡ n = grind (arith, nat_tests) in
        absurd (false≢true (sym f ∙ sym (ap (is_among ns) same) ∙ e))

-- the pairs of such sources
plain_pairs : (ssrcs : List ℕ) → repairs_in (map plain_source ssrcs) ≡ []
plain_pairs [] = refl
plain_pairs (n ∷ ssrcs) = plain_pairs ssrcs

own_pairs : (ssrcs : List ℕ) (ps : List (ℕ × ℕ)) → are_sound_pairs ssrcs ps ≡ true
    → repairs_in (map repair_source ps) ≡ ps
own_pairs ssrcs [] e = refl
own_pairs ssrcs (p ∷ ps) e =
    let one = sound_pair ssrcs p ps e in
    (λ i. (if differ ssrcs p.0 p.1 one.named one.new i then [] else (p.0, p.1) ∷ []) ++ own_pairs ssrcs ps one.rest i)

repairs_back : (ns ssrcs : List ℕ) (ps : List (ℕ × ℕ)) → are_sound_pairs ssrcs ps ≡ true
    → repairs_in (map plain_source ns ++ map repair_source ps) ≡ ps
repairs_back ns ssrcs ps e =
    flat_map-append repair_in (map plain_source ns) (map repair_source ps)
    ∙ (λ i. plain_pairs ns i ++ own_pairs ssrcs ps e i)

-- their SSRCs
abbrev is_plain_source : Source → Bool
is_plain_source source = is_none source.repairs

plain_ssrcs : (ssrcs : List ℕ)
    → map (λ (source : Source). source.ssrc) (filter is_plain_source (map plain_source ssrcs)) ≡ ssrcs
plain_ssrcs [] = refl
plain_ssrcs (n ∷ ssrcs) = ap (λ l. n ∷ l) (plain_ssrcs ssrcs)

none_plain : (ps : List (ℕ × ℕ)) → filter is_plain_source (map repair_source ps) ≡ []
none_plain [] = refl
none_plain (p ∷ ps) = none_plain ps

ssrcs_back : (ssrcs : List ℕ) (ps : List (ℕ × ℕ))
    → map (λ (source : Source). source.ssrc) (filter (λ source. is_none source.repairs)
    (map plain_source ssrcs ++ map repair_source ps)) ≡ ssrcs
ssrcs_back ssrcs ps =
    ap (map (λ (source : Source). source.ssrc))
    (filter-append is_plain_source (map plain_source ssrcs) (map repair_source ps)
    ∙ ap (λ l. filter is_plain_source (map plain_source ssrcs) ++ l) (none_plain ps)
    ∙ append-nil (filter is_plain_source (map plain_source ssrcs)))
    ∙ plain_ssrcs ssrcs

-- the sources that are read
all_ssrcs : (ssrcs : List ℕ) (ps : List (ℕ × ℕ))
    → map (λ (source : Source). source.ssrc) (map plain_source ssrcs ++ map repair_source ps) ≡ ssrcs ++ seconds ps
all_ssrcs ssrcs ps =
    map-append (λ (source : Source). source.ssrc) (map plain_source ssrcs) (map repair_source ps)
    ∙ (λ i. plains ssrcs i ++ repairing ps i)
  where
    plains : (ssrcs : List ℕ) → map (λ (source : Source). source.ssrc) (map plain_source ssrcs) ≡ ssrcs
    plains [] = refl
    plains (n ∷ ssrcs) = ap (λ l. n ∷ l) (plains ssrcs)

    repairing : (ps : List (ℕ × ℕ)) → map (λ (source : Source). source.ssrc) (map repair_source ps) ≡ seconds ps
    repairing [] = refl
    repairing (p ∷ ps) = ap (λ l. p.1 ∷ l) (repairing ps)

are_new : (ssrcs : List ℕ) (ps : List (ℕ × ℕ)) → are_sound_pairs ssrcs ps ≡ true → AreNew ssrcs (seconds ps)
are_new ssrcs [] e = tt
are_new ssrcs (p ∷ ps) e =
    let one = sound_pair ssrcs p ps e in
    (one.new, sym (second_among ps p.1) ∙ one.repairing_once, are_new ssrcs ps one.rest)

repaired_one : (n : ℕ) (p : ℕ × ℕ) → (p.1 == n) ≡ false → repaired_if n p ≡ None
repaired_one n p e = ap (λ b. if b then Some p.0 else None) e

none_repaired : (ps : List (ℕ × ℕ)) (n : ℕ) → is_repairing ps n ≡ false → filter_map (repaired_if n) ps ≡ []
none_repaired [] n e = refl
none_repaired (p ∷ ps) n e = at (p.1 == n) e (none_repaired ps n)
  where
    at : (b : Bool) → (b || is_repairing ps n) ≡ false
        → (is_repairing ps n ≡ false → filter_map (repaired_if n) ps ≡ [])
        → cons_option (if b then Some p.0 else None) (filter_map (repaired_if n) ps) ≡ []
    at true f later = absurd (false≢true (sym f))
    at false f later = later f

plain_read : (ps : List (ℕ × ℕ)) (ns : List ℕ) → IsEach (λ n. is_repairing ps n ≡ false) ns
    → map (source_with ps) ns ≡ map plain_source ns
plain_read ps [] h = refl
plain_read ps (n ∷ ns) h =
    λ i. record { ssrc = n; repairs = last_or None (none_repaired ps n h.0 i) } ∷ plain_read ps ns h.1 i

each_plain : (ssrcs : List ℕ) (ps : List (ℕ × ℕ)) → are_sound_pairs ssrcs ps ≡ true
    → (ns : List ℕ) → IsEach (λ n. is_among ssrcs n ≡ true) ns → IsEach (λ n. is_repairing ps n ≡ false) ns
each_plain ssrcs ps e [] h = tt
each_plain ssrcs ps e (n ∷ ns) h = (one ps e n h.0, each_plain ssrcs ps e ns h.1)
  where
    one : (ps : List (ℕ × ℕ)) → are_sound_pairs ssrcs ps ≡ true → (n : ℕ) → is_among ssrcs n ≡ true
        → is_repairing ps n ≡ false
    one [] e n k = refl
    one (p ∷ ps) e n k =
        let s = sound_pair ssrcs p ps e in
        let no : (p.1 == n) ≡ false = grind (arith, nat_tests, differ ssrcs n p.1 k s.new) in
        λ i. no i || one ps s.rest n k i

own_among : (xs : List ℕ) → IsEach (λ n. is_among xs n ≡ true) xs
own_among xs = from xs xs (λ n e. e)
  where
    from : (xs ns : List ℕ) → ((n : ℕ) → is_among ns n ≡ true → is_among xs n ≡ true)
        → IsEach (λ n. is_among xs n ≡ true) ns
    from xs [] h = tt
    from xs (n ∷ ns) h =
        let own : (n == n) ≡ true = grind (arith, nat_tests) in
        (h n (ap (λ b. b || is_among ns n) own), from xs ns (λ m e. h m (behind (n == m) (is_among ns m) e)))

-- another pair doesn't change what the others say
same_sources : (p : ℕ × ℕ) (ps : List (ℕ × ℕ)) (ns : List ℕ) → is_among ns p.1 ≡ false
    → map (source_with (p ∷ ps)) ns ≡ map (source_with ps) ns
same_sources p ps [] e = refl
same_sources p ps (n ∷ ns) e =
    let two = neither (n == p.1) (is_among ns p.1) e in
    let other : (p.1 == n) ≡ false = grind (arith, nat_tests) in
    λ i. record {
      ssrc = n;
      repairs = last_or None (cons_option (repaired_one n p other i) (filter_map (repaired_if n) ps));
    } ∷ same_sources p ps ns two.1 i

repairing_read : (ssrcs : List ℕ) (ps : List (ℕ × ℕ)) → are_sound_pairs ssrcs ps ≡ true
    → map (source_with ps) (seconds ps) ≡ map repair_source ps
repairing_read ssrcs [] e = refl
repairing_read ssrcs (p ∷ ps) e =
    let one = sound_pair ssrcs p ps e in
    let own : (p.1 == p.1) ≡ true = grind (arith, nat_tests) in
    let alone = none_repaired ps p.1 one.repairing_once in
    (λ i. record { ssrc = p.1; repairs = last_or None (cons_option (if own i then Some p.0 else None) (alone i)) }
    ∷ same_sources p ps (seconds ps) (sym (second_among ps p.1) ∙ one.repairing_once) i)
    ∙ ap (λ l. repair_source p ∷ l) (repairing_read ssrcs ps one.rest)

sources_back : (ssrcs : List ℕ) (ps : List (ℕ × ℕ)) → are_sound_pairs ssrcs ps ≡ true
    → sources_read (map plain_source ssrcs ++ map repair_source ps)
    ≡ map plain_source (distinct ssrcs) ++ map repair_source ps
sources_back ssrcs ps e =
    (λ i. map (source_with (repairs_back ssrcs ssrcs ps e i)) (distinct (all_ssrcs ssrcs ps i)))
    ∙ ap (map (source_with ps)) (new_behind ssrcs (seconds ps) (are_new ssrcs ps e))
    ∙ map-append (source_with ps) (distinct ssrcs) (seconds ps)
    ∙ (λ i. plain_read ps (distinct ssrcs) (each_plain ssrcs ps e (distinct ssrcs)
    (each_distinct (λ n. is_among ssrcs n ≡ true) ssrcs (own_among ssrcs))) i
    ++ repairing_read ssrcs ps e i)

named_back : (w : Wanted) → is_sound w ≡ true → (n : ℕ)
    → is_named (map (λ (source : Source). source.ssrc) (filter is_plain_source (sources_read (sources_wanted w)))) n
    ≡ is_named w.ssrcs n
named_back w e n =
    ap (λ sources. is_named (map (λ (source : Source). source.ssrc) (filter is_plain_source sources)) n)
    (sources_back w.ssrcs w.repairs e)
    ∙ ap (λ ssrcs. is_named ssrcs n) (ssrcs_back (distinct w.ssrcs) w.repairs)
    ∙ distinct_names w.ssrcs n

pairs_back : (w : Wanted) → is_sound w ≡ true → repairs_in (sources_read (sources_wanted w)) ≡ w.repairs
pairs_back w e =
    ap repairs_in (sources_back w.ssrcs w.repairs e) ∙ repairs_back (distinct w.ssrcs) w.ssrcs w.repairs e

pub offered_sections : OfferedSectionsNameWanted
unfolding offered_section
offered_sections exts rows w e = record {
  mid = refl;
  kind = refl;
  ssrcs = named_back w e;
  repairs = pairs_back w e;
}

pub answered_sections : AnsweredSectionsNameWanted
unfolding answered_section
answered_sections exts rows w offer e = record {
  mid = refl;
  kind = refl;
  ssrcs = named_back w e;
  repairs = pairs_back w e;
}

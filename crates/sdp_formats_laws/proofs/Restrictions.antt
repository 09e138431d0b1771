-- Lines `a=rid` are read as they are printed (RFC 8851 4).
use Rattle.std.proofs.Common.{◌≡◌, ◌≤◌, ◌<◌, ℕ, Bool, true, false, not, cond, List, [], ◌∷◌, ◌++◌, Option, Some, None}
use Rattle.std.proofs.Common.{codes, decimal, map, refl, sym, ◌∙◌, ap, append_assoc, arith, lit<}
use Rattle.std.specs.Option.{option_map, is_some}
use Rattle.std.proofs.lemmas.Bool.Decides.{nat_tests}
use Rattle.std.proofs.lemmas.List.{append-nil}
use Rattle.sdp_formats_grammar.specs.Bind.{◌>>=◌}
use Rattle.sdp_formats_grammar.specs.Cuts.{other_byte}
use Rattle.sdp_formats_grammar.specs.Form.{cut_maybe, passed, told}
use Rattle.sdp_formats_grammar.specs.Joined.{each_behind}
use Rattle.sdp_formats_grammar.specs.Split.{Lacks, behind}
use Rattle.sdp_formats_reader.specs.AttributesChoice.{attribute_line}
use Rattle.sdp_formats_reader.specs.AttributesChoice.{media_attribute}
use Rattle.sdp_formats_reader.specs.Pairs.{restrictions_of}
use Rattle.sdp_formats_reader.specs.PrintedPairs.{RestrictionsComeBack, pairs_text}
use Rattle.sdp_formats_values.specs.PrintedParameters.{pair_text}
use Rattle.sdp_formats_values.specs.declared.Pair.{Pair}
use Rattle.sdp_formats_reader.specs.Maps.{payload_type}
use Rattle.sdp_formats_reader.specs.Names.{has_name_chars, name}
use Rattle.sdp_formats_reader.specs.Rids.{limits_of, later_limits, make_id, make_limits, make_rid, maybe_limits}
use Rattle.sdp_formats_reader.specs.Rids.{typed_limits, limits_behind, way}
use Rattle.sdp_formats_values.specs.PrintedValues.{is_empty, line_end}
use Rattle.sdp_formats_values.specs.Lists.{rid_types_text, rid_restrictions_text}
use Rattle.sdp_formats_values.specs.PrintedValues.{way_text}
use Rattle.sdp_formats_data.specs.PrintedMedia.{attribute_text, listed_text}
use Rattle.sdp_formats_data.specs.declared.media.MediaAttribute.TheVariants.{Rid}
use Rattle.sdp_formats_values.specs.declared.streams.RestrictionId.{RestrictionId}
use Rattle.sdp_formats_values.specs.declared.streams.RidDirection.{RidDirection}
use Rattle.sdp_formats_values.specs.declared.streams.RidDirection.TheVariants.{Send, Recv}
use Rattle.sdp_formats_laws.proofs.CandidatesLemmas.{behind_blank, halves-blank, then, all_above, lacks_above}
use Rattle.sdp_formats_laws.proofs.Decimals.{Lacks-decimal}
use Rattle.sdp_formats_laws.proofs.PlainKinds.{first_fits, lacks_two}
use Rattle.sdp_formats_laws.proofs.Printed.{IsPrintedAs, at_text, named_by, named_line, lacks, lacks_both, text_some}
use Rattle.sdp_formats_laws.proofs.Readings.{cut_reads, cut_nowhere, cut_somewhere, type_reads}
use Rattle.sdp_formats_laws.specs.Printable.{AreLimits, AreOnLine, HasOtherKey, IsName, IsText}

pub name_reads : (t : List ℕ) → IsName t → name.reads t ≡ Some t
name_reads t h =
    ap (λ o. o >>= passed has_name_chars) (text_some t h.word.0.0) ∙ ap (λ b. cond b (Some t) None) h.name

pub way_back : (d : RidDirection) → (way (way_text d) ≡ Some d) × Lacks 32 (way_text d)
way_back Send = (refl, lacks 32 (codes "send") refl)
way_back Recv = (refl, lacks 32 (codes "recv") refl)

pub way_above : (d : RidDirection) → all_above (way_text d) ≡ true
way_above Send = refl
way_above Recv = refl

-- what follows the direction
abbrev pub limits_tail : List ℕ → List Pair → Option (List ℕ)
limits_tail [] [] = None
limits_tail [] (p ∷ ps) = Some (pairs_text (p ∷ ps))
limits_tail (pt ∷ pts) ps = Some (codes "pt=" ++ (decimal pt ++ behind_blank None))

abbrev pub limits_in : List ℕ → List Pair → Option (List ℕ × List Pair)
limits_in [] [] = None
limits_in [] (p ∷ ps) = Some ([], p ∷ ps)
limits_in (pt ∷ pts) ps = Some (pt ∷ pts, ps)

some_there : {A : Type 0} (x : A) (xs : List A) → is_empty (x ∷ xs) ≡ false
some_there x xs = grind (arith, nat_tests)

types_some : (pt : ℕ) → rid_types_text (pt ∷ []) ≡ codes " pt=" ++ (decimal pt ++ [])
unfolding rid_types_text
types_some pt = ap (λ b. cond b [] (codes " pt=" ++ (decimal pt ++ []))) (some_there pt [])

restrictions_some : (p : Pair) (ps : List Pair) → rid_restrictions_text false (p ∷ ps) ≡ 32 ∷ pairs_text (p ∷ ps)
unfolding rid_restrictions_text
restrictions_some p ps =
    ap (λ b. cond b [] (cond false (codes ";" ++ pairs_text (p ∷ ps)) (codes " " ++ pairs_text (p ∷ ps))))
    (some_there p ps)

types_none : rid_types_text [] ≡ []
unfolding rid_types_text
types_none = refl

restrictions_none : (b : Bool) → rid_restrictions_text b [] ≡ []
unfolding rid_restrictions_text
restrictions_none b = refl

limits_shape : (pts : List ℕ) (ps : List Pair) → AreLimits pts ps
    → rid_types_text pts ++ rid_restrictions_text (not (is_empty pts)) ps ≡ behind_blank (limits_tail pts ps)
limits_shape [] [] h = (λ i. types_none i ++ restrictions_none false i)
limits_shape [] (p ∷ ps) h = (λ i. types_none i ++ restrictions_some p ps i)
limits_shape (pt ∷ []) [] h =
    (λ i. types_some pt i ++ restrictions_none (not (is_empty (pt ∷ []))) i)
    ∙ append-nil (codes " pt=" ++ (decimal pt ++ []))
limits_shape (pt ∷ []) (p ∷ ps) h = absurd h
limits_shape (pt ∷ other ∷ pts) ps h = absurd h

-- a text that doesn't begin with the letter p
other_key : (key back words : List ℕ) → HasOtherKey key → behind (112 ∷ words) (key ++ back) ≡ None
other_key [] back words h = absurd h
other_key (b ∷ key) back words h = other_byte b 112 _ _ h

other_text : (p : Pair) (ps : List Pair) (words : List ℕ) → HasOtherKey p.key
    → behind (112 ∷ words) (pairs_text (p ∷ ps)) ≡ None
other_text p ps words h =
    ap (behind (112 ∷ words)) (append_assoc p.key (61 ∷ p.value) (each_behind (codes ";") (map pair_text ps)))
    ∙ other_key p.key (61 ∷ (p.value ++ each_behind (codes ";") (map pair_text ps))) words h

typed : (pt : ℕ) → pt ≤ 127 → typed_limits (decimal pt ++ behind_blank None) ≡ Some (make_limits (pt ∷ []) [])
unfolding typed_limits
typed pt low =
    let at = halves-blank (decimal pt) None (Lacks-decimal 32 pt (lit< tt) (omega arith)) in
    then _ _ _ _ (ap (λ (x : List ℕ × Option (List ℕ)). payload_type.reads x.0) at ∙ type_reads pt low)
    (then _ _ _ _ (ap (λ (x : List ℕ × Option (List ℕ)). later_limits x.1) at) refl)

limits_read : RestrictionsComeBack → (d : RidDirection) (pts : List ℕ) (ps : List Pair) → AreLimits pts ps
    → (cut_maybe 32 (told way) (told limits_of)).reads (way_text d ++ behind_blank (limits_tail pts ps))
    ≡ Some (d, option_map (λ (x : List ℕ × List Pair). make_limits x.0 x.1) (limits_in pts ps))
limits_read back d [] [] h =
    ap (cut_maybe 32 (told way) (told limits_of)).reads (append-nil (way_text d))
    ∙ cut_nowhere 32 (told way) (told limits_of) (way_text d) d (way_back d).1 (way_back d).0
limits_read back d [] (p ∷ ps) h =
    cut_somewhere 32 (told way) (told limits_of) (way_text d) (pairs_text (p ∷ ps)) d (make_limits [] (p ∷ ps))
    (way_back d).1 (way_back d).0
    (ap (limits_behind (pairs_text (p ∷ ps))) (other_text p ps (codes "t=") h.2)
    ∙ ap (λ o. cond (is_some o) None (option_map (make_limits []) (restrictions_of (pairs_text (p ∷ ps)))))
    (other_text p ps [] h.2)
    ∙ ap (option_map (make_limits [])) (back p ps h.0))
limits_read back d (pt ∷ []) [] h =
    cut_somewhere 32 (told way) (told limits_of) (way_text d) (codes "pt=" ++ (decimal pt ++ behind_blank None)) d
    (make_limits (pt ∷ []) []) (way_back d).1 (way_back d).0 (typed pt h)
limits_read back d (pt ∷ []) (p ∷ ps) h = absurd h
limits_read back d (pt ∷ other ∷ pts) ps h = absurd h

-- no end of a line
lacks_pairs : (b : ℕ) (p : Pair) (ps : List Pair) → (61 ≡ b → ⊥) → (59 ≡ b → ⊥)
    → ((t : List ℕ) → IsText t → Lacks b t) → AreOnLine (p ∷ ps) → Lacks b (pairs_text (p ∷ ps))
lacks_pairs b p [] equals semi each h =
    lacks_both b (pair_text p) [] (lacks_two b 61 p.key p.value (each p.key h.0.0) equals (each p.value h.0.1)) tt
lacks_pairs b p (q ∷ qs) equals semi each h =
    lacks_two b 59 (pair_text p) (pairs_text (q ∷ qs))
    (lacks_two b 61 p.key p.value (each p.key h.0.0) equals (each p.value h.0.1)) semi
    (lacks_pairs b q qs equals semi each h.1)

lacks_limits : (b : ℕ) (pts : List ℕ) (ps : List Pair) → b < 32 → ((t : List ℕ) → IsText t → Lacks b t)
    → AreLimits pts ps → Lacks b (behind_blank (limits_tail pts ps))
lacks_limits b [] [] low each h = tt
lacks_limits b [] (p ∷ ps) low each h = (
  (λ e. omega (e, low, arith)),
  lacks_pairs b p ps (λ e. omega (e, low, arith)) (λ e. omega
      (e, low, arith)) each h.1,
)
lacks_limits b (pt ∷ []) [] low each h =
    lacks_both b (codes " pt=") (decimal pt ++ []) (lacks_above b (codes " pt=") low refl)
    (lacks_both b (decimal pt) [] (Lacks-decimal b pt (omega (low, arith)) (omega (h, arith))) tt)
lacks_limits b (pt ∷ []) (p ∷ ps) low each h = absurd h
lacks_limits b (pt ∷ other ∷ pts) ps low each h = absurd h

rid_shape : (id way types restrictions : List ℕ)
    → id ++ 32 ∷ (way ++ (types ++ (restrictions ++ line_end)))
    ≡ (id ++ 32 ∷ (way ++ (types ++ restrictions))) ++ line_end
rid_shape id way types restrictions = simp append_assoc

made_back : (id : RestrictionId) (d : RidDirection) (pts : List ℕ) (ps : List Pair) → id.1 ≡ true
    → make_rid (make_id id.0) d (maybe_limits (option_map (λ (x : List ℕ
    × List Pair). make_limits x.0 x.1) (limits_in pts ps))) ≡ Rid id d pts ps
made_back id d [] [] h = (λ i. Rid (record { 0 = id.0; 1 = sym h i }) d [] [])
made_back id d [] (p ∷ ps) h = (λ i. Rid (record { 0 = id.0; 1 = sym h i }) d [] (p ∷ ps))
made_back id d (pt ∷ pts) ps h = (λ i. Rid (record { 0 = id.0; 1 = sym h i }) d (pt ∷ pts) ps)

pub rid_line : RestrictionsComeBack → (id : RestrictionId) (d : RidDirection) (pts : List ℕ) (ps : List Pair)
    → id.1 ≡ true → IsName id.0 → AreLimits pts ps
    → IsPrintedAs attribute_line (attribute_text (Rid id d pts ps)) (Rid id d pts ps)
unfolding media_attribute attribute_text listed_text
rid_line back id d pts ps active h limits =
    let tail = behind_blank (limits_tail pts ps) in
    at_text attribute_line _ _ _
    (ap (λ t. codes "a=rid:" ++ t)
    (rid_shape id.0 (way_text d) (rid_types_text pts) (rid_restrictions_text (not (is_empty pts)) ps)
    ∙ ap (λ t. (id.0 ++ 32 ∷ (way_text d ++ t)) ++ line_end) (limits_shape pts ps limits)))
    (named_line attribute_line (codes "a=rid:") (id.0 ++ 32 ∷ (way_text d ++ tail)) (Rid id d pts ps)
    (named_by (codes "a=rid:") refl)
    (lacks_two 10 32 id.0 (way_text d ++ tail) h.word.0.1 (λ e. cc)
    (lacks_both 10 (way_text d) tail (lacks_above 10 (way_text d) (lit< tt) (way_above d))
    (lacks_limits 10 pts ps (lit< tt) (λ t k. k.1) limits)))
    (lacks_two 13 32 id.0 (way_text d ++ tail) h.word.0.2 (λ e. cc)
    (lacks_both 13 (way_text d) tail (lacks_above 13 (way_text d) (lit< tt) (way_above d))
    (lacks_limits 13 pts ps (lit< tt) (λ t k. k.2) limits)))
    (first_fits _ _ _
    (ap (option_map (λ x. make_rid (make_id x.0) x.1.0 (maybe_limits x.1.1)))
    (cut_reads 32 name (cut_maybe 32 (told way) (told limits_of)) id.0 (way_text d ++ tail) id.0
    (d, option_map (λ (x : List ℕ × List Pair). make_limits x.0 x.1) (limits_in pts ps)) h.word.1 (name_reads id.0 h)
    (limits_read back d pts ps limits))
    ∙ ap Some (made_back id d pts ps active))))

-- How an aggregate is laid out.
use Rattle.std.proofs.Common.{◌≡◌, ℕ, zero, suc, ◌+◌, ◌*◌, ◌<◌, ◌≤◌, List, [], ◌∷◌, ◌++◌, length, take, drop, None}
use Rattle.std.proofs.Common.{Some, Option, inl, inr, refl, sym, ap, subst, ◌∙◌, arith}
use Rattle.std.proofs.lemmas.Bool.{cases_lt}
use Rattle.std.proofs.lemmas.List.{length-append, length-drop, length-take, take-append-drop}
use Rattle.std.proofs.Math.Seq.{take-append_seam, drop-append_seam}
use Rattle.h26x_payload_units.specs.declared.aggregates.AggregateFault.{AggregateFault}
use Rattle.h26x_payload_units.specs.declared.aggregates.AggregateFault.TheVariants.{CutShort, PastEnd}
use Rattle.h26x_payload_units.specs.AggregateLayout.{AggregateLaw, EndsSo, IsLaidOut, IsSized, PassesEnd}
use Rattle.h26x_payload_units.specs.Aggregates.{Aggregated, aggregated, only_fault, with_first}
use Rattle.h26x_payload_units.proofs.AggregateLemmas.{aggregated-none, first_is, past_is, short_is}

behind_lead : (lead : ℕ) (text before behind : List ℕ) → text ≡ before ++ behind → length before ≡ lead
    → drop lead text ≡ behind
behind_lead lead text before behind laid_out lead_is =
    ap (drop lead) laid_out ∙ ap (λ n. drop n (before ++ behind)) (sym lead_is) ∙ drop-append_seam before behind

end_read : (lead later : ℕ) (text : List ℕ) (fault : Option AggregateFault) → EndsSo lead text fault
    → aggregated lead later text ≡ only_fault fault
end_read lead later text None e = ap (aggregated lead later) e ∙ aggregated-none lead later
end_read lead later text (Some CutShort) e = short_is lead later text e.0 e.1
end_read lead later text (Some PastEnd) e =
    past_is lead later text e.rest e.high e.low
    (behind_lead lead text e.before (e.high ∷ e.low ∷ e.rest) e.laid_out e.lead_is) e.too_few

read_so : (lead later : ℕ) (text : List ℕ) (units : List (List ℕ)) (fault : Option AggregateFault)
    → IsLaidOut lead later text units fault → aggregated lead later text ≡ record { units = units; fault = fault }
read_so lead later text [] fault is = end_read lead later text fault is
read_so lead later text (u ∷ us) fault (rest, (is, others)) =
    let front : u ≡ take (is.high * 256 + is.low) (u ++ rest) =
    sym (take-append_seam u rest) ∙ ap (λ n. take n (u ++ rest)) is.size_is in
    let back : rest ≡ drop (is.high * 256 + is.low) (u ++ rest) =
    sym (drop-append_seam u rest) ∙ ap (λ n. drop n (u ++ rest)) is.size_is in
    first_is lead later text (u ++ rest) u rest is.high is.low
    (behind_lead lead text is.before (is.high ∷ is.low ∷ (u ++ rest)) is.laid_out is.lead_is)
    (omega (arith, is.size_is, length-append u rest)) front back
    ∙ ap (with_first u) (read_so later later rest us fault others)

abbrev IsLaid : ℕ → ℕ → List ℕ → Aggregated → Type 0
IsLaid lead later text a = IsLaidOut lead later text a.units a.fault

-- a text with a size in it, where shorter ones are laid out
laid_sized : (lead later : ℕ) (text behind : List ℕ) → drop lead text ≡ behind → lead + 2 ≤ length text
    → ((rest : List ℕ) → length rest < length text → IsLaid later later rest (aggregated later later rest))
    → IsLaid lead later text (aggregated lead later text)
laid_sized lead later text [] is long shorter =
    absurd (omega (arith, ap (λ (t : List ℕ). length t) is, length-drop lead text, long))
laid_sized lead later text (high ∷ []) is long shorter =
    absurd (omega (arith, ap (λ (t : List ℕ). length t) is, length-drop lead text, long))
laid_sized lead later text (high ∷ low ∷ rest) is long shorter =
    let whole : text ≡ take lead text ++ (high ∷ low ∷ rest) =
    sym (take-append-drop lead text) ∙ ap (λ t. take lead text ++ t) is in
    let lead_is : length (take lead text) ≡ lead = omega (arith, length-take lead text, long) in
    let size : ℕ = high * 256 + low in
    elim (cases_lt (length rest) size) [
      | inl past ↦
          let passes : PassesEnd lead text = record {
            before = take lead text;
            high = high;
            low = low;
            rest = rest;
            laid_out = whole;
            lead_is =
                lead_is;
            too_few = past;
          } in
          subst (IsLaid lead later text) (sym (past_is lead later text rest high low is past)) passes
      | inr fits ↦
          let fewer : length (drop size rest) < length text =
          omega (arith, ap (λ (t : List ℕ). length t) is, length-drop lead text, length-drop size rest) in
          let sized : IsSized lead text (take size rest) (drop size rest) = record {
            before = take lead text;
            high = high;
            low = low;
            laid_out = whole ∙ ap (λ t. take lead text ++ (high ∷ low ∷ t)) (sym (take-append-drop size rest));
            lead_is = lead_is;
            size_is = omega (arith, length-take size rest);
          } in
          subst (IsLaid lead later text) (sym (first_is lead later text rest (take size rest) (drop size rest) high
          low is (omega arith) refl refl)) (drop size rest, (sized, shorter (drop size rest) fewer))
    ]

laid_within : (n lead later : ℕ) (text : List ℕ) → length text ≤ n → IsLaid lead later text (aggregated lead later text)
laid_within n lead later [] le = subst (IsLaid lead later []) (sym (aggregated-none lead later)) refl
laid_within zero lead later (b ∷ bs) le = absurd (omega arith)
laid_within (suc n) lead later (b ∷ bs) le = elim (cases_lt (length (b ∷ bs)) (lead + 2)) [
  | inl short ↦
      let some : 0 < length (b ∷ bs) = omega arith in
      let cut : (0 < length (b ∷ bs)) × (length (b ∷ bs) < lead + 2) = (some, short) in
      subst (IsLaid lead later (b ∷ bs)) (sym (short_is lead later (b ∷ bs) some short)) cut
  | inr long ↦ laid_sized lead later (b ∷ bs) (drop lead (b ∷ bs)) refl (omega arith)
      (λ rest less. laid_within n later later rest (omega arith))
]

pub aggregate_law : AggregateLaw
aggregate_law lead later text units fault = (
  (λ is. read_so lead later text units fault is),
  (λ e. subst (IsLaid lead later text) e (laid_within (length text) lead later text (omega arith))),
)

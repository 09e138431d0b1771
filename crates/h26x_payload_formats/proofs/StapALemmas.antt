-- What is in a STAP-A, and what follows its whole units.
use Rattle.std.proofs.Common.{◌≡◌, ℕ, ◌≤◌, List, [], ◌∷◌, ◌++◌, length, drop, None, Option, refl, sym, ap, ◌∙◌, arith}
use Rattle.std.specs.List.{flat_map}
use Rattle.std.proofs.lemmas.List.{length-append, nil_from_length}
use Rattle.h26x_payload_units.specs.declared.aggregates.AggregateFault.{AggregateFault}
use Rattle.h26x_payload_units.specs.AggregateLayout.{IsLaidOut, IsSized}
use Rattle.h26x_payload_units.specs.Aggregates.{aggregated, in_aggregate, sized}
use Rattle.h26x_payload_units.proofs.AggregateLemmas.{all_sized as all_in_aggregate}
use Rattle.h26x_payload_units.proofs.AggregateLaw.{aggregate_law as shared_law}

bare : (units : List (List ℕ)) → in_aggregate [] [] units ≡ flat_map sized units
bare [] = refl
bare (u ∷ us) = ap (λ t. sized u ++ t) (bare us)

-- units after their sizes are read as they are
pub all_sized : (units : List (List ℕ)) → aggregated 0 0 (flat_map sized units) ≡ record { units = units; fault = None }
all_sized units = ap (aggregated 0 0) (sym (bare units)) ∙ all_in_aggregate [] [] units

-- with nothing before the size
pub text_is : (text unit rest : List ℕ) (is : IsSized 0 text unit rest) → text ≡ is.high ∷ is.low ∷ (unit ++ rest)
text_is text unit rest is = is.laid_out ∙ ap (λ before. before ++ (is.high ∷ is.low ∷ (unit ++ rest)))
    (nil_from_length is.before is.lead_is)

drop_past : (unit more rest : List ℕ) → drop (length (unit ++ more)) (unit ++ rest) ≡ drop (length more) rest
drop_past [] more rest = refl
drop_past (b ∷ unit) more rest = drop_past unit more rest

-- what is after the first unit and others is what is after the others
pub drop_first : (text unit rest more : List ℕ) → IsSized 0 text unit rest → drop (length (sized unit ++ more)) text
    ≡ drop (length more) rest
drop_first text unit rest more is = ap (drop (length (sized unit ++ more))) (text_is text unit rest is)
    ∙ drop_past unit more rest

-- whole units don't pass the end
sizes_fit : (text : List ℕ) (units : List (List ℕ)) (fault : Option AggregateFault) → IsLaidOut 0 0 text units fault
    → length (flat_map sized units) ≤ length text
sizes_fit text [] fault is = omega arith
sizes_fit text (u ∷ us) fault (rest, (is, others)) =
    omega (
      arith,
      sizes_fit rest us fault others,
      ap (λ (t : List ℕ). length t) (text_is text u rest is),
      length-append u rest,
      length-append u (flat_map sized us),
    )

pub is_laid_out : (text : List ℕ) → IsLaidOut 0 0 text (aggregated 0 0 text).units (aggregated 0 0 text).fault
is_laid_out text = (shared_law 0 0 text (aggregated 0 0 text).units (aggregated 0 0 text).fault).1 refl

pub units_fit : (text : List ℕ) → length (flat_map sized (aggregated 0 0 text).units) ≤ length text
units_fit text = sizes_fit text (aggregated 0 0 text).units (aggregated 0 0 text).fault (is_laid_out text)

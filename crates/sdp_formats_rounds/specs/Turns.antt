-- Rows that change one after another.
use Rattle.std.specs.Prelude.{List, [], ◌∷◌, ◌++◌, Result, Ok, Err}
use Rattle.sdp_formats_rows.specs.Rows.{Row}
use Rattle.sdp_formats_rounds.specs.declared.error.RoundError.{RoundError}

abbrev pub Refused : Type 0 → Type 0
Refused A = Result A RoundError

-- The first refusal stays.
abbrev pub and_then : {A B : Type 0} → Result A RoundError → (A → Result B RoundError) → Result B RoundError
and_then (Err e) f = Err e
and_then (Ok x) f = f x

-- Row by row, each becomes what the step makes of it; the step sees the rows before it as they are now, and those after
-- it. The first refusal ends it.
abbrev pub in_turn : (List Row → Row → List Row → Result Row RoundError) → List Row → List Row
    → Result (List Row) RoundError
in_turn step done [] = Ok done
in_turn step done (row ∷ rest) = and_then (step done row rest) (λ new. in_turn step (done ++ new ∷ []) rest)

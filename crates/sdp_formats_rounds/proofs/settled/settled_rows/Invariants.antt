use Rattle.std.proofs.Common.{◌≡◌, take, drop}
use Rattle.std.specs.Prelude.{◌∷◌, ◌++◌}
use Rattle.sdp_formats_rounds.specs.Turns.{in_turn}
use Rattle.sdp_formats_rounds.specs.Rounds.{settled_row, settled_rows}
use Rattle.sdp_formats_rounds.proofs.settled.settled_rows.Given as goal

-- what was done, and then the turns of the rest, is the whole
abbrev pub invariant-loop-i : goal.invariant-loop-i
invariant-loop-i l =
    in_turn (λ done row rest. settled_row l.before (done ++ row ∷ rest) row) (take l.i l.rows) (drop l.i l.rows)
    ≡ settled_rows l.before l.initial.rows

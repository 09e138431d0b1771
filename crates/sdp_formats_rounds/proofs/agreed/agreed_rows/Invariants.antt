use Rattle.std.proofs.Common.{◌≡◌, take, drop}
use Rattle.std.specs.Prelude.{◌∷◌, ◌++◌}
use Rattle.sdp_formats_rounds.specs.Turns.{in_turn}
use Rattle.sdp_formats_rounds.specs.Rounds.{agreed_row, agreed_rows}
use Rattle.sdp_formats_rounds.proofs.agreed.agreed_rows.Given as goal

-- what was done, and then the turns of the rest, is the whole
abbrev pub invariant-loop-i : goal.invariant-loop-i
invariant-loop-i l =
    in_turn (λ done row rest. agreed_row l.dictated l.remote l.before (done ++ row ∷ rest) row) (take l.i l.rows)
    (drop l.i l.rows)
    ≡ agreed_rows l.dictated l.remote l.before l.initial.rows

use Rattle.std.proofs.Common.{◌≡◌, take, drop}
use Rattle.sdp_formats_rounds.specs.Turns.{in_turn}
use Rattle.sdp_formats_rounds.specs.Rounds.{standing_row, standing_rows}
use Rattle.sdp_formats_rounds.proofs.standing.standing_rows.Given as goal

-- what was done, and then the turns of the rest, is the whole
abbrev pub invariant-loop-i : goal.invariant-loop-i
invariant-loop-i l =
    in_turn (λ done row rest. standing_row done row) (take l.i l.rows) (drop l.i l.rows) ≡ standing_rows l.rows

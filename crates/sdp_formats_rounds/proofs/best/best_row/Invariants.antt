use Rattle.std.proofs.Common.{◌≡◌, drop}
use Rattle.std.specs.Prelude.{fold, None}
use Rattle.std.specs.Option.{option_copied}
use Rattle.sdp_formats_rounds.specs.Best.{better}
use Rattle.sdp_formats_rounds.proofs.best.best_row.Given as goal

-- the best so far, and then the rest, is the best of all
abbrev pub invariant-loop-other : goal.invariant-loop-other
invariant-loop-other l =
    fold (better l.row.spec) (option_copied l.best) (drop l.other-index l.rows) ≡ fold (better l.row.spec) None l.rows

use Rattle.std.proofs.Common.{◌≡◌, drop}
use Rattle.std.specs.Option.{option_copied}
use Rattle.std.specs.Prelude.{fold, None, filter, not}
use Rattle.sdp_formats_rounds.specs.Best.{better}
use Rattle.sdp_formats_rounds.specs.Types.{is_locked_type}
use Rattle.sdp_formats_rounds.proofs.agreed.best_open.Given as goal

-- the best so far, and then the rest, is the best of all that are left in
abbrev pub invariant-loop-theirs : goal.invariant-loop-theirs
invariant-loop-theirs l =
    fold (better l.row.spec) (option_copied l.best)
    (filter (λ r. not (is_locked_type l.now r.pt)) (drop l.theirs-index l.remote))
    ≡ fold (better l.row.spec) None (filter (λ r. not (is_locked_type l.now r.pt)) l.remote)

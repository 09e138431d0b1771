use Rattle.std.proofs.Common.{◌≡◌, ◌++◌, drop}
use Rattle.std.specs.Prelude.{filter}
use Rattle.sdp_formats_rows.specs.Kinds.{is_of_kind}
use Rattle.sdp_formats_rows.proofs.kinds.rows_of_kind.Given as goal

-- what was kept so far, and then what is kept of the rest, is what is kept of all
abbrev pub invariant-loop-row : goal.invariant-loop-row
invariant-loop-row l =
    l.kept.items ++ filter (is_of_kind l.kind l.for_new_offer l.rows) (drop l.row-index l.rows)
    ≡ filter (is_of_kind l.kind l.for_new_offer l.rows) l.rows

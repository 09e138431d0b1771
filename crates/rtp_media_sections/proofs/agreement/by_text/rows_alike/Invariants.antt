use Rattle.std.proofs.Common.{◌≡◌, ◌++◌, drop, filter}
use Rattle.rtp_media_sections.specs.Agreement.{has_alike}
use Rattle.rtp_media_sections.proofs.agreement.by_text.rows_alike.Given as goal

-- the rows so far, and those that are left
abbrev pub invariant-loop-row : goal.invariant-loop-row
invariant-loop-row l =
    l.left.items ++ filter (has_alike l.own) (drop l.row-index l.rows) ≡ filter (has_alike l.fn.own) l.fn.rows

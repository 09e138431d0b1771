use Rattle.std.proofs.Common.{◌≡◌, ◌++◌, drop}
use Rattle.rtp_media_sections.specs.Lines.{types_listed}
use Rattle.rtp_media_sections.proofs.lines.types_listed.Given as goal

-- the types so far, and those of the rest
abbrev pub invariant-loop-row : goal.invariant-loop-row
invariant-loop-row l = l.types.items ++ types_listed (drop l.row-index l.rows) ≡ types_listed l.rows

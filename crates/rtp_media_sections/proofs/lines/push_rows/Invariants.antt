use Rattle.std.proofs.Common.{◌≡◌, ◌++◌, drop}
use Rattle.rtp_media_sections.specs.Lines.{row_lines}
use Rattle.rtp_media_sections.proofs.lines.push_rows.Given as goal

-- the lines so far, and those of the rest
abbrev pub invariant-loop-row : goal.invariant-loop-row
invariant-loop-row l =
    l.attrs.items ++ row_lines (drop l.row-index l.rows) ≡ l.fn.attrs.items ++ row_lines l.rows

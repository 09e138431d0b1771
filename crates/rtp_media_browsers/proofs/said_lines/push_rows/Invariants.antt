use Rattle.std.proofs.Common.{◌≡◌, ◌++◌, drop, map}
use Rattle.rtp_media_sections.specs.Lines.{row_lines}
use Rattle.sdp_formats_reader.specs.AsRead.{as_read}
use Rattle.rtp_media_browsers.proofs.said_lines.push_rows.Given as goal

-- the lines so far, and those of the rows that are left
abbrev pub invariant-loop-row : goal.invariant-loop-row
invariant-loop-row l =
    l.attributes.items ++ map as_read (row_lines (drop l.row-index l.rows))
    ≡ l.fn.attributes.items ++ map as_read (row_lines l.fn.rows)

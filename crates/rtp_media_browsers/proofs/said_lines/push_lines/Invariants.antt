use Rattle.std.proofs.Common.{◌≡◌, ◌++◌, map}
use Rattle.sdp_formats_reader.specs.AsRead.{as_read}
use Rattle.rtp_media_browsers.proofs.said_lines.push_lines.Given as goal

-- the lines so far, and those that are left
abbrev pub invariant-loop-line : goal.invariant-loop-line
invariant-loop-line l =
    l.attributes.items ++ map as_read l.line-iterator.rest.items ≡ l.fn.attributes.items ++ map as_read l.fn.lines.items

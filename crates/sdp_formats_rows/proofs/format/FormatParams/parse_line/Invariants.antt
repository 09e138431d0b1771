use Rattle.std.proofs.Common.{◌≡◌, length}
use Rattle.std.specs.Option.{option_copied}
use Rattle.sdp_formats_grammar.specs.Pieces.{parts_from}
use Rattle.sdp_formats_rows.specs.Formats.{with_parts, format_of}
use Rattle.sdp_formats_rows.proofs.format.FormatParams.parse_line.Given as goal

-- the parameters so far with the parts that are left
abbrev pub invariant-loop-rest : goal.invariant-loop-rest
invariant-loop-rest l = with_parts l.last_alone (parts_from 59 (option_copied l.rest)) l.format ≡ format_of l.fn.line

abbrev pub decreases-loop-rest : goal.decreases-loop-rest
decreases-loop-rest l = length (parts_from 59 (option_copied l.rest))

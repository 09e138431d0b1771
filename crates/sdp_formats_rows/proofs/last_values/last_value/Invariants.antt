use Rattle.std.proofs.Common.{◌≡◌, length, None}
use Rattle.std.specs.Option.{option_copied}
use Rattle.sdp_formats_grammar.specs.Pieces.{parts_from}
use Rattle.sdp_formats_grammar.specs.Split.{parts}
use Rattle.sdp_formats_rows.specs.LineValues.{last_value}
use Rattle.sdp_formats_rows.proofs.last_values.last_value.Given as goal

-- what was found so far, and the parts that are left
abbrev pub invariant-loop-rest : goal.invariant-loop-rest
invariant-loop-rest l = last_value l.key (parts_from 59 (option_copied l.rest)) (option_copied l.found)
    ≡ last_value l.key (parts 59 l.fn.line) None

abbrev pub decreases-loop-rest : goal.decreases-loop-rest
decreases-loop-rest l = length (parts_from 59 (option_copied l.rest))

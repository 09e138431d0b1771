use Rattle.std.proofs.Common.{◌≡◌, length}
use Rattle.std.specs.List.{list_any}
use Rattle.std.specs.Option.{option_copied}
use Rattle.sdp_formats_grammar.specs.Pieces.{parts_from}
use Rattle.sdp_formats_grammar.specs.Split.{parts}
use Rattle.sdp_formats_rows.specs.LineValues.{gives_level}
use Rattle.sdp_formats_rows.proofs.last_values.gives_level.Given as goal

-- the parts that are left decide
abbrev pub invariant-loop-rest : goal.invariant-loop-rest
invariant-loop-rest l = list_any gives_level (parts_from 59 (option_copied l.rest))
    ≡ list_any gives_level (parts 59 l.fn.line)

abbrev pub decreases-loop-rest : goal.decreases-loop-rest
decreases-loop-rest l = length (parts_from 59 (option_copied l.rest))

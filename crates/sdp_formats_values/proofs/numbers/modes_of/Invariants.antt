use Rattle.std.proofs.Common.{◌≡◌, Some, length}
use Rattle.std.specs.Option.{option_copied}
use Rattle.sdp_formats_grammar.specs.Pieces.{parts_from}
use Rattle.sdp_formats_values.specs.Numbers.{modes_of, with_modes}
use Rattle.sdp_formats_values.proofs.numbers.modes_of.Given as goal

-- the modes so far with those that are left
abbrev pub invariant-loop-rest : goal.invariant-loop-rest
invariant-loop-rest l = with_modes (parts_from 44 (option_copied l.rest)) (Some l.modes) ≡ modes_of l.fn.text

abbrev pub decreases-loop-rest : goal.decreases-loop-rest
decreases-loop-rest l = length (parts_from 44 (option_copied l.rest))

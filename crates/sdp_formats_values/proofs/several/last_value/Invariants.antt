use Rattle.std.proofs.Common.{◌≡◌, None, drop}
use Rattle.std.specs.Option.{option_copied}
use Rattle.sdp_formats_values.specs.Params.{last_value}
use Rattle.sdp_formats_values.proofs.several.last_value.Given as goal

-- what was found so far, and the pairs that are left
abbrev pub invariant-loop-pair : goal.invariant-loop-pair
invariant-loop-pair l = last_value l.name (option_copied l.found) (drop l.pair-index l.fn.pairs)
    ≡ last_value l.name None l.fn.pairs

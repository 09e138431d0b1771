use Rattle.std.proofs.Common.{◌≡◌, ◌++◌}
use Rattle.sdp_formats_values.specs.Params.{others_of}
use Rattle.sdp_formats_values.proofs.several.push_others.Given as goal

-- the parameters so far, and those of the entries that are left
abbrev pub invariant-loop-key : goal.invariant-loop-key
invariant-loop-key l = l.params.items ++ others_of l.key-iterator ≡ l.fn.params.items ++ others_of l.fn.entries.entries

use Rattle.std.proofs.Common.{◌≡◌, ◌++◌, drop}
use Rattle.std.specs.List.{flat_map}
use Rattle.std.specs.Option.{option_to_list}
use Rattle.sdp_formats_rows.specs.Parameters.{params_of}
use Rattle.sdp_formats_rows.proofs.format.FormatParams.to_format_param.Given as goal

-- the parameters so far and those that are left
abbrev pub invariant-loop-param : goal.invariant-loop-param
invariant-loop-param l =
    l.params.items ++ flat_map option_to_list (drop l.param-index l.param-items) ≡ params_of l.self

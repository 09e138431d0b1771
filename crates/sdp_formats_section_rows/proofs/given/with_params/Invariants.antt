use Rattle.std.proofs.Common.{◌≡◌, drop}
use Rattle.std.specs.Prelude.{fold}
use Rattle.sdp_formats_rows.specs.OneParam.{with_codec_param}
use Rattle.sdp_formats_section_rows.proofs.given.with_params.Given as goal

-- the format so far with the parameters that are left
abbrev pub invariant-loop-param : goal.invariant-loop-param
invariant-loop-param l =
    fold with_codec_param l.format (drop l.param-index l.params) ≡ fold with_codec_param l.fn.format l.params

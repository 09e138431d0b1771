-- How printed parameters are read back.
use Rattle.std.specs.Prelude.{Bool, true, false, not, List, ◌++◌, map, filter}
use Rattle.sdp_formats_values.specs.declared.param.FormatParam.{FormatParam}
use Rattle.sdp_formats_values.specs.declared.param.FormatParam.TheVariants.{H265ProfileTierLevel}
use Rattle.sdp_formats_values.specs.declared.param.FormatParam.TheVariants.{H266ProfileTierLevel}
use Rattle.sdp_formats_values.specs.declared.param.FormatParam.TheVariants.{TelephoneEvents, BareRange}
use Rattle.sdp_formats_values.specs.declared.param.FormatParam.TheVariants.{BarePtList, Red}
use Rattle.sdp_formats_data.specs.declared.media.MediaAttribute.{MediaAttribute}
use Rattle.sdp_formats_data.specs.declared.media.MediaAttribute.TheVariants.{Fmtp}

-- A profile, tier and level (RFC 7798 7.1, RFC 9328 7.2).
abbrev pub is_level : FormatParam → Bool
is_level (H265ProfileTierLevel v) = true
is_level (H266ProfileTierLevel v) = true
is_level _ = false

-- A range of telephone events is read as a bare range, and a RED type as a bare list of types: which of them it is
-- depends on the codec, which is on another line.
abbrev pub spelled_as : FormatParam → FormatParam
spelled_as (TelephoneEvents most) = BareRange most
spelled_as (Red pt) = BarePtList pt
spelled_as p = p

abbrev pub is_other : FormatParam → Bool
is_other p = not (is_level p)

-- The parameters as they are read: a profile, tier and level comes first.
abbrev pub params_as_read : List FormatParam → List FormatParam
params_as_read ps = filter is_level (map spelled_as ps) ++ filter is_other (map spelled_as ps)

-- An attribute as its line is read.
abbrev pub as_read : MediaAttribute → MediaAttribute
as_read (Fmtp pt values) = Fmtp pt (params_as_read values)
as_read a = a

-- Formats with one more parameter (RFC 8866 6.15).
use Rattle.std.specs.Prelude.{ℕ, Option, Some, None}
use Rattle.sdp_formats_values.specs.declared.param.FormatParam.{FormatParam}
use Rattle.sdp_formats_values.specs.declared.param.FormatParam.TheVariants.{MinPTime, Stereo, SpropStereo}
use Rattle.sdp_formats_values.specs.declared.param.FormatParam.TheVariants.{UseInbandFec, UseDtx}
use Rattle.sdp_formats_values.specs.declared.param.FormatParam.TheVariants.{LevelAsymmetryAllowed, PacketizationMode}
use Rattle.sdp_formats_values.specs.declared.param.FormatParam.TheVariants.{ProfileLevelId, ProfileId, Profile}
use Rattle.sdp_formats_values.specs.declared.param.FormatParam.TheVariants.{LevelIdx, Tier, H265ProfileTierLevel}
use Rattle.sdp_formats_values.specs.declared.param.FormatParam.TheVariants.{H266ProfileTierLevel, SpropMaxDonDiff}
use Rattle.sdp_formats_values.specs.declared.param.FormatParam.TheVariants.{TelephoneEvents, OctetAlign}
use Rattle.sdp_formats_values.specs.declared.param.FormatParam.TheVariants.{ModeSet}
use Rattle.sdp_formats_rows.specs.declared.format.FormatParams.{FormatParams}

-- The format after one more parameter of a codec; a range of telephone events belongs to no other codec.
abbrev pub with_codec_param : FormatParams → FormatParam → FormatParams
with_codec_param f (MinPTime v) = record f { min_p_time = Some v }
with_codec_param f (Stereo v) = record f { stereo = Some v }
with_codec_param f (SpropStereo v) = record f { sprop_stereo = Some v }
with_codec_param f (UseInbandFec v) = record f { use_inband_fec = Some v }
with_codec_param f (UseDtx v) = record f { use_dtx = Some v }
with_codec_param f (LevelAsymmetryAllowed v) = record f { level_asymmetry_allowed = Some v }
with_codec_param f (PacketizationMode v) = record f { packetization_mode = Some v }
with_codec_param f (ProfileLevelId v) = record f { profile_level_id = Some v }
with_codec_param f (ProfileId v) = record f { profile_id = Some v }
with_codec_param f (Profile v) = record f { profile = Some v }
with_codec_param f (LevelIdx v) = record f { level_idx = Some v }
with_codec_param f (Tier v) = record f { tier = Some v }
with_codec_param f (H265ProfileTierLevel v) = record f { h265_profile_tier_level = Some v }
with_codec_param f (H266ProfileTierLevel v) = record f { h266_profile_tier_level = Some v }
with_codec_param f (SpropMaxDonDiff v) = record f { sprop_max_don_diff = Some v }
with_codec_param f (OctetAlign v) = record f { octet_align = Some v }
with_codec_param f (ModeSet v) = record f { mode_set = Some v }
with_codec_param f _ = f

-- How far a range of telephone events goes.
abbrev pub range_in : FormatParam → Option ℕ
range_in (TelephoneEvents most) = Some most
range_in _ = None

abbrev pub with_range : FormatParams → Option ℕ → FormatParams
with_range f (Some most) = record f { telephone_event_max = Some most }
with_range f None = f

-- The format with one more parameter, a range of telephone events included.
abbrev pub with_param : FormatParams → FormatParam → FormatParams
with_param f p = with_range (with_codec_param f p) (range_in p)

-- The parameters that a format gives.
use Rattle.std.specs.Prelude.{List, [], ◌∷◌, Option}
use Rattle.std.specs.List.{flat_map}
use Rattle.std.specs.Option.{option_map, option_to_list}
use Rattle.sdp_formats_values.specs.declared.param.FormatParam.{FormatParam}
use Rattle.sdp_formats_values.specs.declared.param.FormatParam.TheVariants as param
use Rattle.sdp_formats_rows.specs.declared.format.FormatParams.{FormatParams}

-- Each parameter that a format may give, with its value if it gives it, in the order of printing.
abbrev pub each_param : FormatParams → List (Option FormatParam)
each_param f =
    option_map param.MinPTime f.min_p_time
    ∷ option_map param.Stereo f.stereo
    ∷ option_map param.SpropStereo f.sprop_stereo
    ∷ option_map param.UseInbandFec f.use_inband_fec
    ∷ option_map param.UseDtx f.use_dtx
    ∷ option_map param.LevelAsymmetryAllowed f.level_asymmetry_allowed
    ∷ option_map param.PacketizationMode f.packetization_mode
    ∷ option_map param.ProfileLevelId f.profile_level_id
    ∷ option_map param.ProfileId f.profile_id
    ∷ option_map param.Profile f.profile
    ∷ option_map param.LevelIdx f.level_idx
    ∷ option_map param.Tier f.tier
    ∷ option_map param.H265ProfileTierLevel f.h265_profile_tier_level
    ∷ option_map param.H266ProfileTierLevel f.h266_profile_tier_level
    ∷ option_map param.SpropMaxDonDiff f.sprop_max_don_diff
    ∷ option_map param.TelephoneEvents f.telephone_event_max
    ∷ option_map param.OctetAlign f.octet_align
    ∷ option_map param.ModeSet f.mode_set
    ∷ []

-- The parameters of a format that are given, in the order of printing.
abbrev pub params_of : FormatParams → List FormatParam
params_of f = flat_map option_to_list (each_param f)

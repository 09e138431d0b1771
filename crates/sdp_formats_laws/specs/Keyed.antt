-- Parameters with a key and a value, as pairs.
use Rattle.std.specs.Prelude.{◌<◌, ◌≤◌, ◌^◌, ℕ, List, [], ◌∷◌, codes}
use Rattle.std.specs.Fmt.{decimal}
use Rattle.sdp_formats_values.specs.PrintedParameters.{flag_digit, six_digits, modes_text}
use Rattle.sdp_formats_values.specs.declared.pairs.Pair.{Pair}
use Rattle.sdp_formats_values.specs.declared.param.FormatParam.{FormatParam}
use Rattle.sdp_formats_values.specs.declared.param.FormatParam.TheVariants as param
use Rattle.sdp_formats_rounds.specs.Ranges.{IsModes}

-- A parameter whose value fits its width.
abbrev pub IsKeyed : FormatParam → Type 0
IsKeyed (param.MinPTime v) = v < 2 ^ 8
IsKeyed (param.Stereo v) = Unit {0}
IsKeyed (param.SpropStereo v) = Unit {0}
IsKeyed (param.UseInbandFec v) = Unit {0}
IsKeyed (param.UseDtx v) = Unit {0}
IsKeyed (param.LevelAsymmetryAllowed v) = Unit {0}
IsKeyed (param.PacketizationMode v) = v < 2 ^ 8
IsKeyed (param.ProfileLevelId v) = v < 2 ^ 32
IsKeyed (param.ProfileId v) = v < 2 ^ 32
IsKeyed (param.Profile v) = v < 2 ^ 8
IsKeyed (param.LevelIdx v) = v < 2 ^ 8
IsKeyed (param.Tier v) = v < 2 ^ 8
IsKeyed (param.SpropMaxDonDiff v) = v ≤ 32767
IsKeyed (param.OctetAlign v) = Unit {0}
IsKeyed (param.ModeSet v) = IsModes v
IsKeyed (param.Apt v) = v < 2 ^ 8
IsKeyed _ = ⊥

abbrev pub AreKeyed : List FormatParam → Type 0
AreKeyed [] = Unit {0}
AreKeyed (p ∷ ps) = IsKeyed p × AreKeyed ps

abbrev pub pair : List ℕ → List ℕ → Pair
pair key value = record { key = key; value = value }

abbrev pub pair_of : FormatParam → Pair
pair_of (param.MinPTime v) = pair (codes "minptime") (decimal v)
pair_of (param.Stereo v) = pair (codes "stereo") (decimal (flag_digit v))
pair_of (param.SpropStereo v) = pair (codes "sprop-stereo") (decimal (flag_digit v))
pair_of (param.UseInbandFec v) = pair (codes "useinbandfec") (decimal (flag_digit v))
pair_of (param.UseDtx v) = pair (codes "usedtx") (decimal (flag_digit v))
pair_of (param.LevelAsymmetryAllowed v) = pair (codes "level-asymmetry-allowed") (decimal (flag_digit v))
pair_of (param.PacketizationMode v) = pair (codes "packetization-mode") (decimal v)
pair_of (param.ProfileLevelId v) = pair (codes "profile-level-id") (six_digits v)
pair_of (param.ProfileId v) = pair (codes "profile-id") (decimal v)
pair_of (param.Profile v) = pair (codes "profile") (decimal v)
pair_of (param.LevelIdx v) = pair (codes "level-idx") (decimal v)
pair_of (param.Tier v) = pair (codes "tier") (decimal v)
pair_of (param.SpropMaxDonDiff v) = pair (codes "sprop-max-don-diff") (decimal v)
pair_of (param.OctetAlign v) = pair (codes "octet-align") (decimal (flag_digit v))
pair_of (param.ModeSet v) = pair (codes "mode-set") (modes_text v)
pair_of (param.Apt v) = pair (codes "apt") (decimal v)
pair_of _ = pair [] []

-- Its key isn't one of a profile, tier and level (RFC 7798 7.1).
abbrev pub IsOrdinary : FormatParam → Type 0
IsOrdinary (param.ProfileId v) = ⊥
IsOrdinary (param.MinPTime v) = IsKeyed (param.MinPTime v)
IsOrdinary (param.Stereo v) = IsKeyed (param.Stereo v)
IsOrdinary (param.SpropStereo v) = IsKeyed (param.SpropStereo v)
IsOrdinary (param.UseInbandFec v) = IsKeyed (param.UseInbandFec v)
IsOrdinary (param.UseDtx v) = IsKeyed (param.UseDtx v)
IsOrdinary (param.LevelAsymmetryAllowed v) = IsKeyed (param.LevelAsymmetryAllowed v)
IsOrdinary (param.PacketizationMode v) = IsKeyed (param.PacketizationMode v)
IsOrdinary (param.ProfileLevelId v) = IsKeyed (param.ProfileLevelId v)
IsOrdinary (param.Profile v) = IsKeyed (param.Profile v)
IsOrdinary (param.LevelIdx v) = IsKeyed (param.LevelIdx v)
IsOrdinary (param.Tier v) = IsKeyed (param.Tier v)
IsOrdinary (param.SpropMaxDonDiff v) = IsKeyed (param.SpropMaxDonDiff v)
IsOrdinary (param.OctetAlign v) = IsKeyed (param.OctetAlign v)
IsOrdinary (param.ModeSet v) = IsKeyed (param.ModeSet v)
IsOrdinary (param.Apt v) = IsKeyed (param.Apt v)
IsOrdinary _ = ⊥

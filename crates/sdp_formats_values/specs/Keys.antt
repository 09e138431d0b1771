-- Names of format parameters.
use Rattle.std.specs.Prelude.{ℕ, Bool, true, false, List, [], ◌∷◌, codes, find, Option}
use Rattle.std.specs.Str.{str_eq_ignore_ascii_case}
use Rattle.sdp_formats_values.specs.declared.key.Key.{Key}
use Rattle.sdp_formats_values.specs.declared.key.Key.TheVariants.{MinPTime, Stereo, SpropStereo, UseInbandFec, UseDtx}
use Rattle.sdp_formats_values.specs.declared.key.Key.TheVariants.{LevelAsymmetryAllowed, PacketizationMode}
use Rattle.sdp_formats_values.specs.declared.key.Key.TheVariants.{ProfileLevelId, ProfileId, Profile, LevelIdx, Tier}
use Rattle.sdp_formats_values.specs.declared.key.Key.TheVariants.{SpropMaxDonDiff, OctetAlign, ModeSet, TierFlag}
use Rattle.sdp_formats_values.specs.declared.key.Key.TheVariants.{LevelId}

-- The name of a parameter: Opus (RFC 7587 6.1), H.264 (RFC 6184 8.1), VP9 (RFC 9628 6.1), AV1, H.265 and H.266 (RFC
-- 7798 7.1, RFC 9328 7.2), AMR-WB (RFC 4867 8.2).
abbrev pub key_name : Key → List ℕ
key_name MinPTime = codes "minptime"
key_name Stereo = codes "stereo"
key_name SpropStereo = codes "sprop-stereo"
key_name UseInbandFec = codes "useinbandfec"
key_name UseDtx = codes "usedtx"
key_name LevelAsymmetryAllowed = codes "level-asymmetry-allowed"
key_name PacketizationMode = codes "packetization-mode"
key_name ProfileLevelId = codes "profile-level-id"
key_name ProfileId = codes "profile-id"
key_name Profile = codes "profile"
key_name LevelIdx = codes "level-idx"
key_name Tier = codes "tier"
key_name SpropMaxDonDiff = codes "sprop-max-don-diff"
key_name OctetAlign = codes "octet-align"
key_name ModeSet = codes "mode-set"
key_name TierFlag = codes "tier-flag"
key_name LevelId = codes "level-id"

abbrev pub all_keys : List Key
all_keys = MinPTime ∷ Stereo ∷ SpropStereo ∷ UseInbandFec ∷ UseDtx ∷ LevelAsymmetryAllowed ∷ PacketizationMode
    ∷ ProfileLevelId ∷ ProfileId ∷ Profile ∷ LevelIdx ∷ Tier ∷ SpropMaxDonDiff ∷ OctetAlign ∷ ModeSet ∷ TierFlag
    ∷ LevelId ∷ []

-- Whether the text is the parameter's name, in any ASCII case (RFC 4855 3).
unfoldable pub is_name_of : Key → List ℕ → Bool
is_name_of key text = str_eq_ignore_ascii_case (key_name key) text

-- The parameter that a text names.
unfoldable pub key_named : List ℕ → Option Key
key_named text = find (λ key. is_name_of key text) all_keys

-- Whether a parameter belongs to a profile, tier and level (RFC 7798 7.1, RFC 9328 7.2).
abbrev pub is_level_key : Key → Bool
is_level_key TierFlag = true
is_level_key LevelId = true
is_level_key _ = false

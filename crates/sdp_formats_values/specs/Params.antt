-- Format parameters, one by one (RFC 8866 6.15).
use Rattle.std.specs.Prelude.{ℕ, ◌^◌, Bool, true, false, ◌&&◌, ◌||◌, List, [], ◌∷◌, ◌++◌, map, nat_eq, codes, Option}
use Rattle.std.specs.Prelude.{Some, None, if◌then◌else◌}
use Rattle.std.specs.Char.{to_ascii_lowercase}
use Rattle.std.specs.Cmp.Lexicographic.{pointwise}
use Rattle.std.specs.List.{list_any}
use Rattle.indexmap.specs.IndexMap.{insert_entry}
use Rattle.std.specs.Str.{bytes_eq, str_eq_ignore_ascii_case}
use Rattle.media_types.specs.H265ProfileTierLevel.{given as given_265}
use Rattle.media_types.specs.H266ProfileTierLevel.{given as given_266}
use Rattle.media_types.specs.H265ProfileTierLevel.{H265ProfileTierLevel as Level265}
use Rattle.media_types.specs.H266ProfileTierLevel.{H266ProfileTierLevel as Level266}
use Rattle.sdp_formats_values.specs.declared.key.Key.{Key}
use Rattle.sdp_formats_values.specs.declared.key.Key.TheVariants as key
use Rattle.sdp_formats_values.specs.declared.pairs.Pair.{Pair}
use Rattle.sdp_formats_values.specs.declared.param.FormatParam.{FormatParam}
use Rattle.sdp_formats_values.specs.declared.param.FormatParam.TheVariants.{MinPTime, Stereo, SpropStereo}
use Rattle.sdp_formats_values.specs.declared.param.FormatParam.TheVariants.{UseInbandFec, UseDtx}
use Rattle.sdp_formats_values.specs.declared.param.FormatParam.TheVariants.{LevelAsymmetryAllowed, PacketizationMode}
use Rattle.sdp_formats_values.specs.declared.param.FormatParam.TheVariants.{ProfileLevelId, ProfileId, Profile}
use Rattle.sdp_formats_values.specs.declared.param.FormatParam.TheVariants.{LevelIdx, Tier, H265ProfileTierLevel}
use Rattle.sdp_formats_values.specs.declared.param.FormatParam.TheVariants.{H266ProfileTierLevel, SpropMaxDonDiff}
use Rattle.sdp_formats_values.specs.declared.param.FormatParam.TheVariants.{TelephoneEvents, OctetAlign, ModeSet}
use Rattle.sdp_formats_values.specs.declared.param.FormatParam.TheVariants.{AmrWbUnsupported, Apt, Unknown}
use Rattle.sdp_formats_values.specs.Keys.{key_named, is_level_key}
use Rattle.sdp_formats_values.specs.Numbers.{numeral_below, profile_level, up_to, modes_of, range_of}

-- A flag is on where its value is 1.
abbrev pub flag : List ℕ → Bool
flag value = bytes_eq value (codes "1")

-- A parameter, if its value parses; otherwise Unknown.
abbrev pub word_param : (ℕ → FormatParam) → Option ℕ → FormatParam
word_param made (Some n) = made n
word_param made None = Unknown

-- A parameter whose value is a number of eight bits.
abbrev pub byte_param : Key → Option ℕ → FormatParam
byte_param k None = Unknown
byte_param key.MinPTime (Some n) = MinPTime n
byte_param key.PacketizationMode (Some n) = PacketizationMode n
byte_param key.Profile (Some n) = Profile n
byte_param key.LevelIdx (Some n) = LevelIdx n
byte_param key.Tier (Some n) = Tier n
byte_param _ (Some n) = Unknown

abbrev pub byte_value : List ℕ → Option ℕ
byte_value value = numeral_below (2 ^ 8) 10 value

-- The parameter of a known key.
abbrev pub value_param : Key → List ℕ → FormatParam
value_param key.MinPTime v = byte_param key.MinPTime (byte_value v)
value_param key.Stereo v = Stereo (flag v)
value_param key.SpropStereo v = SpropStereo (flag v)
value_param key.UseInbandFec v = UseInbandFec (flag v)
value_param key.UseDtx v = UseDtx (flag v)
value_param key.LevelAsymmetryAllowed v = LevelAsymmetryAllowed (flag v)
value_param key.PacketizationMode v = byte_param key.PacketizationMode (byte_value v)
value_param key.ProfileLevelId v = word_param ProfileLevelId (profile_level v)
value_param key.ProfileId v = word_param ProfileId (numeral_below (2 ^ 32) 10 v)
value_param key.Profile v = byte_param key.Profile (byte_value v)
value_param key.LevelIdx v = byte_param key.LevelIdx (byte_value v)
value_param key.Tier v = byte_param key.Tier (byte_value v)
value_param key.SpropMaxDonDiff v = word_param SpropMaxDonDiff (up_to 32767 (numeral_below (2 ^ 16) 10 v))
value_param key.OctetAlign v = OctetAlign (flag v)
value_param key.ModeSet v = word_param ModeSet (modes_of v)
value_param key.TierFlag v = Unknown
value_param key.LevelId v = Unknown

-- `apt`, the payload type that RTX repeats (RFC 4588 8.6), and the features that AMR-WB isn't supported with (RFC 4867
-- 8.2).
abbrev pub other_param : List ℕ → List ℕ → FormatParam
other_param k v =
    if str_eq_ignore_ascii_case (codes "apt") k then word_param Apt (byte_value v)
    else if (str_eq_ignore_ascii_case (codes "crc") k || str_eq_ignore_ascii_case (codes "robust-sorting") k)
    && bytes_eq v (codes "1") then AmrWbUnsupported
    else if str_eq_ignore_ascii_case (codes "mode-change-period") k && bytes_eq v (codes "2") then AmrWbUnsupported
    else if str_eq_ignore_ascii_case (codes "interleaving") k then AmrWbUnsupported
    else Unknown

abbrev pub named_param : Option Key → List ℕ → List ℕ → FormatParam
named_param (Some known) k v = value_param known v
named_param None k v = other_param k v

-- The parameter of a key and its value.
abbrev pub param_of : List ℕ → List ℕ → FormatParam
param_of k v = named_param (key_named k) k v

-- The range of telephone events (RFC 4733 2.4.1).
abbrev pub telephone_events : List ℕ → FormatParam
telephone_events value = word_param TelephoneEvents (range_of value)

abbrev pub pair_param : Pair → FormatParam
pair_param p = param_of p.key p.value

-- Whether a key is of a tier or a level.
abbrev pub is_level : Option Key → Bool
is_level (Some known) = is_level_key known
is_level None = false

abbrev pub gives_level : Pair → Bool
gives_level p = is_level (key_named p.key)

-- The value of a name: that of the last pair with that name.
abbrev pub or_before : Bool → List ℕ → Option (List ℕ) → Option (List ℕ)
or_before true value before = Some value
or_before false value before = before

abbrev pub last_value : List ℕ → Option (List ℕ) → List Pair → Option (List ℕ)
last_value name before [] = before
last_value name before (p ∷ ps) = last_value name (or_before (str_eq_ignore_ascii_case name p.key) p.value before) ps

-- Each key once, in lower case, in the order of first occurrence, with its last value (RFC 4855 3).
abbrev pub Entries : Type 0
Entries = List (List ℕ × List ℕ)

abbrev pub with_pair : Entries → Pair → Entries
with_pair before p = insert_entry (pointwise nat_eq) before (map to_ascii_lowercase p.key) p.value

abbrev pub with_pairs : Entries → List Pair → Entries
with_pairs before [] = before
with_pairs before (p ∷ ps) = with_pairs (with_pair before p) ps

-- The profile, tier and level that three values mean for H.265, or else for H.266; or none.
abbrev pub level_266 : Option Level266 → List FormatParam
level_266 (Some x) = H266ProfileTierLevel x ∷ []
level_266 None = []

abbrev pub level_param : Option Level265 → Option Level266 → List FormatParam
level_param (Some x) other = H265ProfileTierLevel x ∷ []
level_param None other = level_266 other

abbrev pub levels_of : Option (List ℕ) → Option (List ℕ) → Option (List ℕ) → List FormatParam
levels_of id tier level = level_param (given_265 id tier level) (given_266 id tier level)

abbrev pub levels_in : List Pair → List FormatParam
levels_in ps = levels_of (last_value (codes "profile-id") None ps) (last_value (codes "tier-flag") None ps)
    (last_value (codes "level-id") None ps)

-- One parameter, or none.
abbrev pub listed : Option FormatParam → List FormatParam
listed None = []
listed (Some p) = p ∷ []

-- One of the three keys of a profile, tier and level, in lower case.
abbrev pub is_level_name : List ℕ → Bool
is_level_name k = bytes_eq k (codes "profile-id") || (bytes_eq k (codes "tier-flag") || bytes_eq k (codes "level-id"))

abbrev pub onto_others : List ℕ × List ℕ → List FormatParam → List FormatParam
onto_others e others = if is_level_name e.0 then others else param_of e.0 e.1 ∷ others

abbrev pub others_of : Entries → List FormatParam
others_of [] = []
others_of (e ∷ es) = onto_others e (others_of es)

abbrev pub level_params : List Pair → List FormatParam
level_params ps =
    levels_of (last_value (codes "profile-id") None ps) (last_value (codes "tier-flag") None ps)
    (last_value (codes "level-id") None ps)
    ++ others_of (with_pairs [] ps)

-- The parameters of pairs. If one gives a tier or level, each key counts once, and the three keys of a profile, tier
-- and level become one parameter, in front (RFC 7798 7.1, RFC 9328 7.2).
abbrev pub params_of : List Pair → List FormatParam
params_of ps = if list_any gives_level ps then level_params ps else map pair_param ps

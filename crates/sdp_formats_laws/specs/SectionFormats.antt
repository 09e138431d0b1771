-- The format that a section gives a payload type (RFC 8866 6.15).
use Rattle.std.specs.Prelude.{◌≡◌, ◌≢◌, ◌↔◌, ◌⊎◌, ℕ, ◌==◌, List, [], ◌∷◌, Option, Some, None, filter_map}
use Rattle.std.specs.Prelude.{if◌then◌else◌}
use Rattle.std.specs.List.{flat_map}
use Rattle.media_types.specs.declared.codec.Codec.{Codec}
use Rattle.media_types.specs.declared.codec.Codec.TheVariants.{AmrWb, Tele}
use Rattle.sdp_formats_rows.specs.Formats.{no_format}
use Rattle.sdp_formats_rows.specs.declared.format.FormatParams.{FormatParams}
use Rattle.sdp_formats_values.specs.declared.param.FormatParam.{FormatParam}
use Rattle.sdp_formats_values.specs.declared.param.FormatParam.TheVariants as param
use Rattle.sdp_formats_section_rows.specs.Given.{format_given}
use Rattle.sdp_formats_data.specs.declared.media.MediaAttribute.{MediaAttribute}
use Rattle.sdp_formats_data.specs.declared.media.MediaAttribute.TheVariants as attribute
use Rattle.sdp_formats_rounds.specs.Members.{IsIn}
use Rattle.sdp_formats_laws.specs.Last.{IsLastIfAny}

-- What each line `a=fmtp` of a type holds, in order.
abbrev pub line_of : ℕ → MediaAttribute → Option (List FormatParam)
line_of pt (attribute.Fmtp other values) = if other == pt then Some values else None
line_of pt _ = None

abbrev pub lines_of : ℕ → List MediaAttribute → List (List FormatParam)
lines_of pt attrs = filter_map (line_of pt) attrs

-- The parameters of lines, in order.
abbrev pub parameters_in : List (List FormatParam) → List FormatParam
parameters_in lines = flat_map (λ line. line) lines

-- There is one line, and it holds only a range of events `0-X` (RFC 4733 2.4.1).
abbrev pub IsRangeTo : ℕ → FormatParam → Type 0
IsRangeTo most range = (range ≡ param.BareRange most) ⊎ (range ≡ param.TelephoneEvents most)

abbrev pub IsOneRangeTo : ℕ → List (List FormatParam) → Type 0
IsOneRangeTo most lines = (range : FormatParam) × (lines ≡ (range ∷ []) ∷ []) × IsRangeTo most range

abbrev pub events_up_to : ℕ → FormatParams
events_up_to most = record no_format { telephone_event_max = Some most }

-- AMR-WB with a parameter for a feature that isn't supported (RFC 4867 8.2).
abbrev pub IsUnsupported : Codec → List FormatParam → Type 0
IsUnsupported codec params = (codec ≡ AmrWb) × IsIn param.AmrWbUnsupported params

-- The value of the last parameter of a kind, if there is one.
abbrev pub IsLastOfKind : {A : Type 0} → (A → FormatParam) → List FormatParam → Option A → Type 0
IsLastOfKind kind params last = IsLastIfAny (λ p value. p ≡ kind value) params last

-- Each parameter of a format is the last of its kind.
pub record AreLast (params : List FormatParam) (format : FormatParams) : Type 0 where
  pub min_p_time : IsLastOfKind param.MinPTime params format.min_p_time
  pub stereo : IsLastOfKind param.Stereo params format.stereo
  pub sprop_stereo : IsLastOfKind param.SpropStereo params format.sprop_stereo
  pub use_inband_fec : IsLastOfKind param.UseInbandFec params format.use_inband_fec
  pub use_dtx : IsLastOfKind param.UseDtx params format.use_dtx
  pub level_asymmetry_allowed : IsLastOfKind param.LevelAsymmetryAllowed params format.level_asymmetry_allowed
  pub packetization_mode : IsLastOfKind param.PacketizationMode params format.packetization_mode
  pub profile_level_id : IsLastOfKind param.ProfileLevelId params format.profile_level_id
  pub profile_id : IsLastOfKind param.ProfileId params format.profile_id
  pub profile : IsLastOfKind param.Profile params format.profile
  pub level_idx : IsLastOfKind param.LevelIdx params format.level_idx
  pub tier : IsLastOfKind param.Tier params format.tier
  pub h265_profile_tier_level : IsLastOfKind param.H265ProfileTierLevel params format.h265_profile_tier_level
  pub h266_profile_tier_level : IsLastOfKind param.H266ProfileTierLevel params format.h266_profile_tier_level
  pub sprop_max_don_diff : IsLastOfKind param.SpropMaxDonDiff params format.sprop_max_don_diff
  pub telephone_event_max : format.telephone_event_max ≡ None
  pub octet_align : IsLastOfKind param.OctetAlign params format.octet_align
  pub mode_set : IsLastOfKind param.ModeSet params format.mode_set

-- The format that a type's lines give a codec. Telephone events: 0 to 16 without a line; otherwise the range, if it is
-- alone (RFC 4733 2.4.1). Other codecs: the last parameter of each kind.
pub record IsGiven (codec : Codec) (lines : List (List FormatParam)) (given : Option FormatParams) : Type 0 where
  pub no_line : codec ≡ Tele → lines ≡ [] → given ≡ Some (events_up_to 16)
  pub one_range : codec ≡ Tele → (most : ℕ) → IsOneRangeTo most lines → given ≡ Some (events_up_to most)
  pub other_lines : codec ≡ Tele → lines ≢ [] → ((most : ℕ) → IsOneRangeTo most lines → ⊥) → given ≡ None
  pub unsupported : IsUnsupported codec (parameters_in lines) → given ≡ None
  pub otherwise : codec ≢ Tele → (IsUnsupported codec (parameters_in lines) → ⊥)
      → (format : FormatParams) × (given ≡ Some format) × AreLast (parameters_in lines) format

abbrev pub FormatsAreOfSections : Type 0
FormatsAreOfSections = (codec : Codec) (pt : ℕ) (attrs : List MediaAttribute) (given : Option FormatParams)
    → (given ≡ format_given codec pt attrs) ↔ IsGiven codec (lines_of pt attrs) given

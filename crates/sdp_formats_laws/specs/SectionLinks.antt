-- The RTX type, or the RED type, of a payload type (RFC 4588 8.6, RFC 2198 5).
use Rattle.std.specs.Prelude.{◌≡◌, ◌↔◌, ◌⊎◌, ℕ, List, Option}
use Rattle.media_types.specs.declared.codec.Codec.{Codec}
use Rattle.media_types.specs.declared.codec.Codec.TheVariants as codec
use Rattle.sdp_formats_values.specs.declared.param.FormatParam.{FormatParam}
use Rattle.sdp_formats_values.specs.declared.param.FormatParam.TheVariants as param
use Rattle.sdp_formats_section_rows.specs.Mapped.{mappings}
use Rattle.sdp_formats_section_rows.specs.SectionRows.{linked}
use Rattle.sdp_formats_data.specs.declared.media.MediaAttribute.{MediaAttribute}
use Rattle.sdp_formats_data.specs.declared.media.MediaAttribute.TheVariants as attribute
use Rattle.sdp_formats_data.specs.declared.media.RtpMap.{RtpMap}
use Rattle.sdp_formats_rounds.specs.Members.{IsIn}
use Rattle.sdp_formats_laws.specs.Last.{IsLastIfAny}
use Rattle.sdp_formats_laws.specs.Mapped.{mapped_by_section}

-- A parameter names a payload type: an RTX type's by `apt`; a RED type's by `red`, or as the first of a list separated
-- by slashes.
abbrev pub Names : Codec → ℕ → FormatParam → Type 0
Names role pt p = ((role ≡ codec.Rtx) × (p ≡ param.Apt pt))
    ⊎ ((role ≡ codec.Red) × ((p ≡ param.BarePtList pt) ⊎ (p ≡ param.Red pt)))

-- The section maps a type to a codec.
abbrev pub IsMappedTo : Codec → List ℕ → List MediaAttribute → ℕ → Type 0
IsMappedTo role pts attrs pt = (map : RtpMap) × IsIn map (mapped_by_section pt pts attrs) × (map.codec ≡ role)

-- An `a=fmtp` line of an RTX (or RED) type, one of whose parameters names this payload type.
abbrev pub Links : Codec → List ℕ → List MediaAttribute → ℕ → MediaAttribute → ℕ → Type 0
Links role pts attrs pt line by = (values : List FormatParam) × (line ≡ attribute.Fmtp by values)
    × IsMappedTo role pts attrs by × ((p : FormatParam) × IsIn p values × Names role pt p)

-- The type of the last such line, or none.
abbrev pub LastLinksCount : Type 0
LastLinksCount = (role : Codec) (pts : List ℕ) (attrs : List MediaAttribute) (pt : ℕ) (found : Option ℕ)
    → (found ≡ linked role attrs (mappings pts attrs) pt) ↔ IsLastIfAny (Links role pts attrs pt) attrs found

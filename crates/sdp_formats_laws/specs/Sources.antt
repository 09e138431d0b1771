-- The sources that a section names (RFC 5576).
use Rattle.std.specs.Prelude.{◌≡◌, ◌↔◌, ◌⊎◌, ℕ, List, [], ◌∷◌, ◌++◌, codes, filter_map}
use Rattle.sdp_formats_data.specs.Sources.{repairing_in, source_in, sources_of}
use Rattle.sdp_formats_data.specs.declared.media.MediaAttribute.{MediaAttribute}
use Rattle.sdp_formats_data.specs.declared.media.MediaAttribute.TheVariants as attribute
use Rattle.sdp_formats_laws.specs.EachOnce.{IsEachOnce}
use Rattle.sdp_formats_rounds.specs.Members.{IsIn}
use Rattle.sdp_formats_laws.specs.RepeatedKeys.{lower}

-- The sources are exactly those of `a=ssrc` lines, followed by RTX sources, each once, in the order of first
-- occurrence.
abbrev pub SourcesAreEachOnce : Type 0
SourcesAreEachOnce = (attrs : List MediaAttribute) (sources : List ℕ) → (sources ≡ sources_of attrs)
    ↔ IsEachOnce (filter_map source_in attrs ++ filter_map repairing_in attrs) sources

-- It is a line `a=ssrc` of the source (RFC 5576 4.1).
abbrev pub IsLineOf : ℕ → MediaAttribute → Type 0
IsLineOf source line = (name : List ℕ) × (value : List ℕ) × (line ≡ attribute.Ssrc source name value)

-- A FID group, in any ASCII case, of a source and this one, which repairs it (RFC 4588 8.3).
abbrev pub LetsRepair : ℕ → MediaAttribute → Type 0
LetsRepair source line = (semantics : List ℕ) × (repaired : ℕ)
    × (line ≡ attribute.SsrcGroup semantics (repaired ∷ source ∷ [])) × (lower semantics ≡ codes "fid")

-- A source is in the list if and only if some attribute is such a line or such a group.
abbrev pub SourcesAreNamed : Type 0
SourcesAreNamed = (attrs : List MediaAttribute) (source : ℕ) → IsIn source (sources_of attrs)
    ↔ ((line : MediaAttribute) × IsIn line attrs × (IsLineOf source line ⊎ LetsRepair source line))

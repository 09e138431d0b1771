-- The types that a section maps to codecs (RFC 8866 6.6).
use Rattle.std.specs.Prelude.{◌≡◌, ◌≢◌, ◌↔◌, ℕ, Bool, not, ◌&&◌, ◌==◌, List, [], ◌∷◌, ◌++◌, Option, Some, None}
use Rattle.std.specs.Prelude.{filter, map, if◌then◌else◌, is_some}
use Rattle.std.specs.List.{flat_map}
use Rattle.sdp_formats_rows.specs.Codecs.{static_spec}
use Rattle.sdp_formats_rows.specs.declared.spec.CodecSpec.{CodecSpec}
use Rattle.sdp_formats_section_rows.specs.Mapped.{is_mapped, mappings, mappings_in, static_mapping}
use Rattle.sdp_formats_section_rows.specs.Maps.{map_of}
use Rattle.sdp_formats_data.specs.declared.media.MediaAttribute.{MediaAttribute}
use Rattle.sdp_formats_data.specs.declared.media.MediaAttribute.TheVariants as attribute
use Rattle.sdp_formats_data.specs.declared.media.RtpMap.{RtpMap}
use Rattle.sdp_formats_laws.specs.EachOnce.{IsEachOnce}
use Rattle.sdp_formats_rounds.specs.Members.{IsIn}

-- A static payload type that no line maps.
abbrev pub is_static_alone : List MediaAttribute → ℕ → Bool
is_static_alone attrs pt = not (is_mapped (mappings_in attrs) pt) && is_some (static_spec pt)

-- The mappings are exactly those of the `a=rtpmap` lines, followed by those of the listed static types that no line
-- maps, each once, in the order of first occurrence.
abbrev pub StaticTypesAreBehind : Type 0
StaticTypesAreBehind = (pts : List ℕ) (attrs : List MediaAttribute) (maps : _) → (maps ≡ mappings pts attrs)
    ↔ ((alone : List ℕ) × IsEachOnce (filter (is_static_alone attrs) pts) alone
    × (maps ≡ mappings_in attrs ++ flat_map (λ pt. static_mapping pt (static_spec pt)) alone))

-- What the lines map a type to.
abbrev pub mapped_by_line : ℕ → MediaAttribute → List RtpMap
mapped_by_line pt (attribute.RtpMap other value) = if other == pt then value ∷ [] else []
mapped_by_line pt _ = []

abbrev pub mapped_by_lines : ℕ → List MediaAttribute → List RtpMap
mapped_by_lines pt attrs = flat_map (mapped_by_line pt) attrs

-- The mapping of a static payload type.
abbrev pub map_of_codec : Option CodecSpec → List RtpMap
map_of_codec None = []
map_of_codec (Some spec) = map_of spec ∷ []

-- What the section maps it to.
abbrev pub mapped_by_section : ℕ → List ℕ → List MediaAttribute → List RtpMap
mapped_by_section pt pts attrs = map (λ m. m.map) (filter (λ m. m.pt == pt) (mappings pts attrs))

-- The lines' mapping, if a line maps the type; otherwise that of the static type, if the `m=` line lists it; otherwise
-- none.
pub record IsMapped (pt : ℕ) (pts : List ℕ) (attrs : List MediaAttribute) : Type 0 where
  pub by_lines : mapped_by_lines pt attrs ≢ [] → mapped_by_section pt pts attrs ≡ mapped_by_lines pt attrs
  pub by_itself : mapped_by_lines pt attrs ≡ [] → IsIn pt pts
      → mapped_by_section pt pts attrs ≡ map_of_codec (static_spec pt)
  pub otherwise : mapped_by_lines pt attrs ≡ [] → (IsIn pt pts → ⊥) → mapped_by_section pt pts attrs ≡ []

abbrev pub EachTypeIsMapped : Type 0
EachTypeIsMapped = (pt : ℕ) (pts : List ℕ) (attrs : List MediaAttribute) → IsMapped pt pts attrs

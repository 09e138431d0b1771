-- Which codecs a section maps payload types to (RFC 8866 6.6).
use Rattle.std.specs.Prelude.{ℕ, Bool, ◌==◌, ◌&&◌, List, [], ◌∷◌, ◌++◌, fold, Option, Some, None}
use Rattle.std.specs.Prelude.{if◌then◌else◌}
use Rattle.std.specs.List.{list_any, flat_map}
use Rattle.media_types.specs.declared.codec.Codec.{Codec}
use Rattle.sdp_formats_rows.specs.Codecs.{is_codec, static_spec}
use Rattle.sdp_formats_section_rows.specs.Maps.{map_of}
use Rattle.sdp_formats_rows.specs.declared.spec.CodecSpec.{CodecSpec}
use Rattle.sdp_formats_data.specs.declared.media.MediaAttribute.{MediaAttribute}
use Rattle.sdp_formats_data.specs.declared.media.MediaAttribute.TheVariants as attribute
use Rattle.sdp_formats_section_rows.specs.declared.mapped.Mapping.{Mapping}

-- The types that `a=rtpmap` lines map, in order.
abbrev pub mapping_in : MediaAttribute → List Mapping
mapping_in (attribute.RtpMap pt value) = record { pt = pt; map = value } ∷ []
mapping_in _ = []

abbrev pub mappings_in : List MediaAttribute → List Mapping
mappings_in attrs = flat_map mapping_in attrs

abbrev pub is_mapped : List Mapping → ℕ → Bool
is_mapped maps pt = list_any (λ m. m.pt == pt) maps

-- Then each static type of the section's list that no line maps, once.
abbrev pub static_mapping : ℕ → Option CodecSpec → List Mapping
static_mapping pt None = []
static_mapping pt (Some spec) = record { pt = pt; map = map_of spec } ∷ []

unfoldable pub with_static : List Mapping → ℕ → List Mapping
with_static maps pt = if is_mapped maps pt then maps else maps ++ static_mapping pt (static_spec pt)

abbrev pub mappings : List ℕ → List MediaAttribute → List Mapping
mappings pts attrs = fold with_static (mappings_in attrs) pts

-- Whether a type is mapped to this codec.
abbrev pub is_mapped_to : Codec → List Mapping → ℕ → Bool
is_mapped_to codec maps pt = list_any (λ m. m.pt == pt && is_codec m.map.codec codec) maps

-- Lists of payload types.
use Rattle.std.specs.Prelude.{◌≡◌, ℕ, Bool, true, ◌==◌, List, [], ◌∷◌, ◌++◌, fold}
use Rattle.std.specs.Prelude.{if◌then◌else◌}
use Rattle.std.specs.List.{list_any}
use Rattle.media_types.specs.declared.codec.Codec.{Codec}
use Rattle.sdp_formats_rows.specs.Codecs.{is_codec}
use Rattle.sdp_formats_rows.specs.Plain.{is_media_codec}
use Rattle.sdp_formats_section_rows.specs.Mapped.{is_mapped}
use Rattle.sdp_formats_section_rows.specs.declared.mapped.Mapping.{Mapping}

abbrev pub is_listed : List ℕ → ℕ → Bool
is_listed types pt = list_any (λ t. t == pt) types

abbrev pub with_once : List ℕ → ℕ → List ℕ
with_once types pt = if is_listed types pt then types else types ++ pt ∷ []

-- The types of the mappings that are meant, each once.
unfoldable pub with_type : (Mapping → Bool) → List ℕ → Mapping → List ℕ
with_type is_meant types m = if is_meant m then with_once types m.pt else types

abbrev pub types_meant : (Mapping → Bool) → List Mapping → List ℕ
types_meant is_meant maps = fold (with_type is_meant) [] maps

-- Those that are mapped to a codec.
abbrev pub types_to : Codec → List Mapping → List ℕ
types_to codec maps = types_meant (λ m. is_codec m.map.codec codec) maps

-- Those that are mapped to audio, video or telephone events.
abbrev pub media_types_in : List Mapping → List ℕ
media_types_in maps = types_meant (λ m. is_media_codec m.map.codec) maps

-- Each type of the list is mapped.
abbrev pub AreMapped : List Mapping → List ℕ → Type 0
AreMapped maps types = (pt : ℕ) → is_listed types pt ≡ true → is_mapped maps pt ≡ true

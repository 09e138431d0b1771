-- What calls add to the draft of an end.
use Rattle.std.specs.Prelude.{ℕ, ◌-◌, ◌&&◌, Bool, true, false, nat_le, if◌then◌else◌, List, [], ◌∷◌, ◌++◌, slice_set}
use Rattle.std.specs.Prelude.{Some}
use Rattle.std.specs.Str.{is_utf8}
use Rattle.media_types.specs.declared.codec.MediaKind.{MediaKind}
use Rattle.media_types.specs.declared.codec.MediaKind.TheVariants.{Audio, Video}
use Rattle.rtp_wire.specs.Elements.{Numbering}
use Rattle.rtp_wire.specs.Kinds.{extension_of}
use Rattle.rtp_wire.specs.Maps.{empty_map}
use Rattle.rtp_wire.specs.Name.{name_of}
use Rattle.rtp_media_browsers.specs.declared.request.SectionRequest.{SectionRequest}
use Rattle.rtp_media_sections.specs.Answered.{flow}
use Rattle.sdp_formats_rows.specs.Rows.{Row}
use Rattle.rtp_media_sections.specs.Sections.{Wanted}
use Rattle.jilqamur.specs.Codes.{ok, not_text, out_of_range}

-- The draft: rows and extension map of the next end; sections of the next offer or answer; requests for the sections of
-- a browser's offer; and the (SSRC, RTX SSRC) pairs of the next section or request.
pub record DraftState : Type 0 where
  pub rows : List Row
  pub exts : Numbering
  pub sections : List Wanted
  pub requests : List SectionRequest
  pub repairs : List (ℕ × ℕ)

-- The empty draft.
abbrev pub empty_draft : DraftState
empty_draft = record { rows = []; exts = empty_map; sections = []; requests = []; repairs = [] }

-- The draft plus a row; plus these rows; plus a pair; plus a section or a request, which takes the pairs.
abbrev pub with_row : DraftState → Row → DraftState
with_row d row = record d { rows = d.rows ++ row ∷ [] }

abbrev pub with_rows : DraftState → List Row → DraftState
with_rows d rows = record d { rows = d.rows ++ rows }

abbrev pub with_repair : DraftState → ℕ → ℕ → DraftState
with_repair d ssrc repair = record d { repairs = d.repairs ++ (ssrc, repair) ∷ [] }

abbrev pub with_section : DraftState → Wanted → DraftState
with_section d section = record d { sections = d.sections ++ section ∷ []; repairs = [] }

abbrev pub with_request : DraftState → SectionRequest → DraftState
with_request d request = record d { requests = d.requests ++ request ∷ []; repairs = [] }

-- One that gives a header extension this number.
abbrev pub with_extension : DraftState → ℕ → List ℕ → DraftState
with_extension d id uri = record d { exts = slice_set d.exts (id - 1) (Some (extension_of uri)) }

-- The draft without its sections; without its requests; without its rows and map.
abbrev pub without_sections : DraftState → DraftState
without_sections d = record d { sections = [] }

abbrev pub without_requests : DraftState → DraftState
without_requests d = record d { requests = [] }

abbrev pub without_media : DraftState → DraftState
without_media d = record d { rows = []; exts = empty_map }

-- The kind of a section by what it carries.
abbrev pub kind_of : Bool → MediaKind
kind_of false = Audio
kind_of true = Video

-- A section with this mid, kind and direction, and these pairs.
abbrev pub section_of : List ℕ → Bool → Bool → Bool → List ℕ → List (ℕ × ℕ) → Wanted
section_of mid is_video sends receives ssrcs repairs = record {
  mid = name_of 16 mid;
  kind = kind_of is_video;
  dir = flow sends receives;
  ssrcs = ssrcs;
  repairs = repairs;
}

-- A section's name is a text.
abbrev pub section_outcome : List ℕ → ℕ
section_outcome mid = if is_utf8 mid then ok else not_text

-- A header extension's number is 1 to 16.
abbrev pub extension_outcome : ℕ → List ℕ → ℕ
extension_outcome id uri =
    if nat_le 1 id && nat_le id 16 then (if is_utf8 uri then ok else not_text) else out_of_range

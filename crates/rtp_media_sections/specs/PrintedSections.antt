-- What printed sections are read as.
use Rattle.std.specs.Prelude.{◌≡◌, ◌≢◌, ◌<◌, ◌^◌, ℕ, true, List, [], map, codes, IfSome, None}
use Rattle.std.specs.List.{filter_map, last_or, list_all}
use Rattle.rtp_media_sections.specs.Lines.{line_of, section_of, types_listed}
use Rattle.rtp_media_sections.specs.Repairs.{repairs_in}
use Rattle.rtp_media_sections.specs.Sections.{Section}
use Rattle.rtp_media_sections.specs.declared.sections.Source.{Source}
use Rattle.rtp_wire.specs.Kinds.{extension_of, uri_of}
use Rattle.rtp_wire.specs.Name.{name_of}
use Rattle.rtp_wire.specs.declared.extension.Extension.{Extension}
use Rattle.sdp_formats_data.specs.PrintedMedia.{section_text}
use Rattle.sdp_formats_data.specs.PrintedSession.{sdp_text}
use Rattle.sdp_formats_data.specs.Sources.{repaired_if}
use Rattle.sdp_formats_data.specs.declared.session.Sdp.{Sdp}
use Rattle.sdp_formats_data.specs.declared.session.Session.{Session}
use Rattle.sdp_formats_laws.specs.Printable.{IsWord}
use Rattle.sdp_formats_laws.specs.ReadTexts.{section_as_read}
use Rattle.sdp_formats_rounds.specs.Ranges.{IsSized}
use Rattle.sdp_formats_laws.specs.RowsBack.{unlocked}
use Rattle.sdp_formats_laws.specs.WrittenSession.{grouped}
use Rattle.sdp_formats_data.specs.Distinct.{distinct}
use Rattle.sdp_formats_reader.specs.Grammar.{SdpSays}
use Rattle.sdp_formats_reader.specs.Writable.{IsWritableSession}
use Rattle.sdp_formats_rounds.specs.Laws.{is_distinct}
use Rattle.sdp_formats_rounds.specs.Members.{IsEach}
use Rattle.sdp_formats_rows.specs.Plain.{is_plain}

-- An extension by its URI.
abbrev pub named : ℕ × Extension → ℕ × Extension
named entry = (entry.0, extension_of (uri_of entry.1))

abbrev pub with_names : Section → Section
with_names s = record s { extmaps = map named s.extmaps }

-- The source of an SSRC, given lines with these pairs: the last pair that names it as RTX says which SSRC it repairs.
abbrev pub source_with : List (ℕ × ℕ) → ℕ → Source
source_with pairs ssrc = record { ssrc = ssrc; repairs = last_or None (filter_map (repaired_if ssrc) pairs) }

-- The sources that lines of these sources name: each SSRC once, with the one that it repairs.
abbrev pub sources_read : List Source → List Source
sources_read sources = map (source_with (repairs_in sources)) (distinct (map (λ source. source.ssrc) sources))

-- What is read of a printed section: a media section; with unlocked rows, extensions by URI, and each source once.
abbrev pub as_read : Section → Section
as_read s = record s {
  is_media = true;
  rows = map unlocked s.rows;
  extmaps = map named s.extmaps;
  sources = sources_read s.sources;
}

-- An 8-bit number and a URI that can be written.
abbrev pub IsPrintableEntry : ℕ × Extension → Type 0
IsPrintableEntry entry = (entry.0 < 2 ^ 8) × IsWord (uri_of entry.1)

-- SSRCs of 32 bits.
abbrev pub IsLowSource : Source → Type 0
IsLowSource source = (source.ssrc < 2 ^ 32) × IfSome source.repairs (λ ssrc. ssrc < 2 ^ 32)

-- A section with a mid, plain rows with distinct payload types, numbers that fit their widths, and URIs that are single
-- words.
pub record IsPrintable (s : Section) : Type 0 where
  pub some_name : s.mid ≢ []
  pub name : name_of 16 s.mid ≡ s.mid
  pub some_row : s.rows ≢ []
  pub plain : list_all is_plain s.rows ≡ true
  pub apart : is_distinct (types_listed s.rows) ≡ true
  pub sized : IsEach IsSized s.rows
  pub extmaps : IsEach IsPrintableEntry s.extmaps
  pub sources : IsEach IsLowSource s.sources

-- A section prints the same when its extensions are replaced by those its URIs name.
abbrev pub NamesPrintTheSame : Type 0
NamesPrintTheSame = (s : Section) → section_text (line_of (with_names s)) ≡ section_text (line_of s)

-- Reading the lines of such a section gives `as_read` of it.
abbrev pub PrintedSectionsComeBack : Type 0
PrintedSectionsComeBack = (s : Section) → IsPrintable s
    → section_of (section_as_read (line_of (with_names s))) ≡ as_read s

-- The text of a session with these sections, which are one bundle (RFC 9143 7.2).
abbrev pub bundle_text : Session → List Section → List ℕ
bundle_text session sections = sdp_text (grouped (codes "BUNDLE") (map (λ s. s.mid) sections)
    (record { session = session; media_lines = map line_of sections }))

-- The text says exactly these sections.
pub record SaysRead (text : List ℕ) (sections : List Section) : Type 0 where
  pub said : Sdp
  pub says : SdpSays text said []
  pub only : (other : Sdp) (rest : List ℕ) → SdpSays text other rest → other ≡ said
  pub sections_are : map section_of said.media_lines ≡ sections

-- The text of a writable session with printable sections says exactly these sections, as read.
abbrev pub TextsSaySections : Type 0
TextsSaySections = (session : Session) (sections : List Section) → (session.id < 2 ^ 64) → IsWritableSession session
    → IsEach IsPrintable sections → SaysRead (bundle_text session sections) (map as_read sections)

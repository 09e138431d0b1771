-- What holds of SDP whose sections list plain rows.
use Rattle.std.specs.Prelude.{◌≡◌, ◌≢◌, ◌<◌, ◌≤◌, ◌^◌, Bool, true, false, IsTrue, List, [], ◌∷◌, ◌++◌, map, filter}
use Rattle.std.specs.List.{count_by, flat_map, list_all, list_any}
use Rattle.sdp_formats_laws.specs.Printable.{IsPrintable}
use Rattle.sdp_formats_rounds.specs.Members.{IsEach}
use Rattle.sdp_formats_laws.specs.PrintableTexts.{IsPrintableBandwidth, IsPrintableSection, IsPrintableSession}
use Rattle.sdp_formats_laws.specs.ReadTexts.{section_as_read, text_as_read, text_read}
use Rattle.sdp_formats_data.specs.Sections.{extmap_in}
use Rattle.sdp_formats_reader.specs.Grammar.{SdpSays}
use Rattle.sdp_formats_rounds.specs.Laws.{is_distinct}
use Rattle.sdp_formats_rounds.specs.Ranges.{IsSized}
use Rattle.sdp_formats_laws.specs.RowsBack.{attributes_in, names_type, unlocked}
use Rattle.sdp_formats_rounds.specs.TypeLaws.{types_in}
use Rattle.sdp_formats_rows.specs.Plain.{is_plain}
use Rattle.sdp_formats_rows.specs.Rows.{Row}
use Rattle.sdp_formats_section_rows.specs.SectionRows.{rows_of}
use Rattle.sdp_formats_data.specs.Consistency.{is_consistent, is_direction_of, is_setup}
use Rattle.sdp_formats_reader.specs.Writable.{ComesBack, IsWritableSession}
use Rattle.sdp_formats_data.specs.Lookups.{direction_of, first_of, mid_in, msid_in, setup_in}
use Rattle.sdp_formats_data.specs.Media.{is_mid}
use Rattle.sdp_formats_values.specs.MediaTypes.{is_rtp}
use Rattle.sdp_formats_data.specs.PrintedSession.{sdp_text}
use Rattle.sdp_formats_data.specs.declared.media.MediaAttribute.{MediaAttribute}
use Rattle.sdp_formats_data.specs.declared.media.MediaAttribute.TheVariants.{Fmtp}
use Rattle.sdp_formats_data.specs.declared.media.MediaLine.{MediaLine}
use Rattle.sdp_formats_values.specs.declared.media_type.MediaType.{MediaType}
use Rattle.sdp_formats_values.specs.declared.media_type.MediaType.TheVariants.{Audio, Video}
use Rattle.sdp_formats_data.specs.declared.session.Sdp.{Sdp}
use Rattle.sdp_formats_data.specs.declared.session.SessionAttribute.{SessionAttribute}

abbrev pub IsMedia : MediaType → Type 0
IsMedia Audio = Unit {0}
IsMedia Video = Unit {0}
IsMedia _ = ⊥

-- A section of audio or video that lists rows: they are plain with distinct payload types; the `m=` line lists these
-- types; and its attributes are those of the rows, among others that name no payload type and are printable.
pub record ListsRows (m : MediaLine) (rows : List Row) : Type 0 where
  pub media : IsMedia m.typ
  pub bandwidth : IsPrintableBandwidth m.bw
  pub some : rows ≢ []
  pub plain : list_all is_plain rows ≡ true
  pub sized : IsEach IsSized rows
  pub distinct : is_distinct (types_in rows) ≡ true
  pub types : m.pts ≡ types_in rows
  pub others : List MediaAttribute
  pub behind : List MediaAttribute
  pub attributes : m.attrs ≡ others ++ (attributes_in rows ++ behind)
  pub others_printable : IsEach IsPrintable others
  pub behind_printable : IsEach IsPrintable behind
  pub others_silent : list_any names_type others ≡ false
  pub behind_silent : list_any names_type behind ≡ false

-- A section with exactly one mid, at most one setup and, if it is RTP, one direction (RFC 8829 5.2.1).
pub record HasOneOfEach (m : MediaLine) : Type 0 where
  pub name : count_by is_mid m.attrs ≡ 1
  pub setup : count_by is_setup m.attrs ≤ 1
  pub direction : is_rtp m.proto ≡ true → count_by is_direction_of m.attrs ≡ 1

-- Such a section that lists rows is consistent.
abbrev pub ListedRowsHaveNoFault : Type 0
ListedRowsHaveNoFault = (m : MediaLine) (rows : List Row) → ListsRows m rows → HasOneOfEach m
    → IsTrue (is_consistent m)

-- A section that lists rows is printable: so is every attribute that lists a plain row.
abbrev pub RowsArePrintable : Type 0
RowsArePrintable = (m : MediaLine) (rows : List Row) → ListsRows m rows → IsPrintableSection m

-- The rows that a section names.
abbrev pub section_rows : MediaLine → List Row
section_rows m = rows_of m.pts m.attrs

-- Reading a printed section gives the same rows.
abbrev pub ReadRowsAreRows : Type 0
ReadRowsAreRows = (m : MediaLine) → section_rows (section_as_read m) ≡ section_rows m

abbrev pub EachListsRows : List MediaLine → List (List Row) → Type 0
EachListsRows [] [] = Unit {0}
EachListsRows (m ∷ ms) (rows ∷ more) = ListsRows m rows × EachListsRows ms more
EachListsRows [] (rows ∷ more) = ⊥
EachListsRows (m ∷ ms) [] = ⊥

-- SDP whose sections list plain rows, in a printable session, is read completely, and its rows are read back section by
-- section, in order and unlocked.
abbrev pub RowTextsComeBack : Type 0
RowTextsComeBack = (sdp : Sdp) (rows : List (List Row)) → IsPrintableSession sdp.session
    → EachListsRows sdp.media_lines rows → IsEach HasOneOfEach sdp.media_lines
    → SdpSays (sdp_text sdp) (text_as_read sdp) []
    × (map section_rows (text_as_read sdp).media_lines ≡ map (map unlocked) rows)

-- How session attributes are read back, one by one: as themselves, or as lines of an unknown kind.
abbrev pub AllComeBack : List SessionAttribute → List SessionAttribute → Type 0
AllComeBack [] [] = Unit {0}
AllComeBack (a ∷ as') (b ∷ bs) = ComesBack a b × AllComeBack as' bs
AllComeBack [] (b ∷ bs) = ⊥
AllComeBack (a ∷ as') [] = ⊥

-- The same for a writable session, some of whose attributes may be read as lines of an unknown kind.
abbrev pub WritableRowTextsComeBack : Type 0
WritableRowTextsComeBack = (sdp : Sdp) (rows : List (List Row)) → (sdp.session.id < 2 ^ 64)
    → IsWritableSession sdp.session → EachListsRows sdp.media_lines rows
    → IsEach HasOneOfEach sdp.media_lines
    → (attrs : List SessionAttribute) × SdpSays (sdp_text sdp) (text_read sdp attrs) []
    × AllComeBack sdp.session.attrs attrs
    × (map section_rows (text_read sdp attrs).media_lines ≡ map (map unlocked) rows)

-- A line of another kind than `a=fmtp`.
abbrev pub is_other_line : MediaAttribute → Bool
is_other_line (Fmtp pt values) = false
is_other_line _ = true

-- In a printed section that is read back, every line other than `a=fmtp` says the same, in the same order, including
-- mid, direction, stream names, setup and header extensions.
abbrev pub ReadSectionsSayTheSame : Type 0
ReadSectionsSayTheSame = (m : MediaLine)
    → (filter is_other_line (section_as_read m).attrs ≡ filter is_other_line m.attrs)
    × (first_of mid_in (section_as_read m).attrs ≡ first_of mid_in m.attrs)
    × (direction_of (section_as_read m).attrs ≡ direction_of m.attrs)
    × (first_of msid_in (section_as_read m).attrs ≡ first_of msid_in m.attrs)
    × (first_of setup_in (section_as_read m).attrs ≡ first_of setup_in m.attrs)
    × (flat_map extmap_in (section_as_read m).attrs ≡ flat_map extmap_in m.attrs)

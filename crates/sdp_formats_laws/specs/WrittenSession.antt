-- Sessions whose attributes can be written or are printable, groups included.
use Rattle.std.specs.Prelude.{◌≡◌, ◌<◌, ◌^◌, ◌⊎◌, ℕ, false, List, [], ◌∷◌, map, codes, IfSome}
use Rattle.sdp_formats_reader.specs.OneMoreAttribute.{with_first}
use Rattle.sdp_formats_reader.specs.Writable.{ComesBack, IsWritableAttribute, IsWritableBandwidth}
use Rattle.sdp_formats_reader.specs.Writable.{IsWritableSession}
use Rattle.sdp_formats_reader.specs.Writable.{is_group}
use Rattle.sdp_formats_reader.specs.Grammar.{SdpSays}
use Rattle.sdp_formats_data.specs.PrintedSession.{sdp_text}
use Rattle.sdp_formats_data.specs.declared.session.Sdp.{Sdp}
use Rattle.sdp_formats_data.specs.declared.session.Session.{Session}
use Rattle.sdp_formats_data.specs.declared.session.SessionAttribute.{SessionAttribute}
use Rattle.sdp_formats_data.specs.declared.session.SessionAttribute.TheVariants.{AllowMixedExts, Group}
use Rattle.sdp_formats_rows.specs.Rows.{Row}
use Rattle.sdp_formats_laws.specs.Printable.{IsWord}
use Rattle.sdp_formats_laws.specs.PrintableSession.{AreMids, IsPrintable}
use Rattle.sdp_formats_rounds.specs.Members.{IsEach}
use Rattle.sdp_formats_laws.specs.PrintableTexts.{IsPrintableBandwidth}
use Rattle.sdp_formats_laws.specs.ReadTexts.{section_as_read, text_read}
use Rattle.sdp_formats_laws.specs.Rows.{AllComeBack, EachListsRows, HasOneOfEach, section_rows}
use Rattle.sdp_formats_laws.specs.RowsBack.{unlocked}

-- An attribute that can be written, as `is_writable_session` tells of those of a session, or that is printable, as a
-- group of sections may be.
abbrev pub IsWritten : SessionAttribute → Type 0
IsWritten a = IsWritableAttribute a ⊎ IsPrintable a

-- A session with a number of 64 bits, all of whose lines can be written or printed.
abbrev pub IsWrittenSession : Session → Type 0
IsWrittenSession s = (s.id < 2 ^ 64) × (IfSome s.bw IsWritableBandwidth ⊎ IsPrintableBandwidth s.bw)
    × IsEach IsWritten s.attrs

-- What is read of an attribute: of a printable one the attribute, of another the attribute or one of no known kind.
abbrev pub IsReadAs : SessionAttribute → SessionAttribute → Type 0
IsReadAs a b = ComesBack a b × (IsPrintable a → b ≡ a)

abbrev pub AllReadAs : List SessionAttribute → List SessionAttribute → Type 0
AllReadAs [] [] = Unit {0}
AllReadAs (a ∷ as') (b ∷ bs) = IsReadAs a b × AllReadAs as' bs
AllReadAs [] (b ∷ bs) = ⊥
AllReadAs (a ∷ as') [] = ⊥

-- SDP whose sections list plain rows, in such a session, is read completely: the session's attributes as stated, and
-- the rows section by section, in order and unlocked.
abbrev pub WrittenRowTextsComeBack : Type 0
WrittenRowTextsComeBack = (sdp : Sdp) (rows : List (List Row)) → IsWrittenSession sdp.session
    → EachListsRows sdp.media_lines rows → IsEach HasOneOfEach sdp.media_lines
    → (attrs : List SessionAttribute) × SdpSays (sdp_text sdp) (text_read sdp attrs) []
    × AllReadAs sdp.session.attrs attrs
    × (map section_rows (text_read sdp attrs).media_lines ≡ map (map unlocked) rows)

-- The same SDP with a group in front of the session's attributes, as ends print it.
abbrev pub grouped : List ℕ → List (List ℕ) → Sdp → Sdp
grouped typ mids sdp =
    record { session = with_first (Group typ mids) sdp.session; media_lines = sdp.media_lines }

-- Such SDP with a writable session is read completely: the group as itself, the rest as without the group.
abbrev pub GroupedRowTextsComeBack : Type 0
GroupedRowTextsComeBack = (sdp : Sdp) (rows : List (List Row)) (typ : List ℕ) (mids : List (List ℕ))
    → (sdp.session.id < 2 ^ 64) → IsWritableSession sdp.session → IsWord typ → AreMids mids
    → EachListsRows sdp.media_lines rows → IsEach HasOneOfEach sdp.media_lines
    → (attrs : List SessionAttribute)
    × SdpSays (sdp_text (grouped typ mids sdp)) (text_read (grouped typ mids sdp) (Group typ mids ∷ attrs)) []
    × AllComeBack sdp.session.attrs attrs
    × (map section_rows (map section_as_read sdp.media_lines) ≡ map (map unlocked) rows)

-- A printable attribute that is no group can be written; so can `a=extmap-allow-mixed`, which isn't printable.
abbrev pub PrintableIsWritable : Type 0
PrintableIsWritable = (a : SessionAttribute) → IsPrintable a → is_group a ≡ false → IsWritableAttribute a

-- The usual session attributes of WebRTC (RFC 8829 5.2.1): a BUNDLE group, and `a=extmap-allow-mixed` (RFC 8285 6).
abbrev pub UsualAttributesAreWritten : Type 0
UsualAttributesAreWritten = (mids : List (List ℕ)) → AreMids mids
    → IsEach IsWritten (Group (codes "BUNDLE") mids ∷ AllowMixedExts ∷ [])

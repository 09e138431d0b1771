-- What an end keeps of its exchanges, and how each call changes it.
use Rattle.std.specs.Prelude.{◌≡◌, ◌<◌, ◌^◌, ℕ, true, false, List, [], ◌∷◌, length, map, zip, Option, None}
use Rattle.rtp_wire.specs.Maps.{empty_map}
use Rattle.rtp_wire.specs.Values.{Numbering}
use Rattle.sdp_formats_rounds.specs.Configs.{Config}
use Rattle.sdp_formats_rows.specs.DefaultRows.{opus_row}
use Rattle.sdp_formats_rows.specs.Rows.{Row}
use Rattle.sdp_formats_data.specs.declared.session.Session.{Session}
use Rattle.rtp_media_sections.specs.Agreement.{Agreed, agreed_by_accept, agreed_by_answer, fixed_section}
use Rattle.rtp_media_sections.specs.Extensions.{is_writable_map}
use Rattle.rtp_media_sections.specs.Sections.{Section, Wanted}
use Rattle.rtp_media_sections.specs.PrintableSections.{ArePrintable}
use Rattle.sdp_formats_reader.specs.Writable.{IsWritableSession}

-- What an end keeps of its exchanges: its session, the header extensions it wants, its rows and their locks, the
-- sections of a pending offer, and the sections agreed last.
pub record Exchanged : Type 0 where
  pub session : Session
  pub wanted : Numbering
  pub config : Config
  pub pending : Option (List Wanted)
  pub agreed : List Agreed

-- The invariant of an end: its session and its extension map can be written, and its rows read back from the texts that
-- list them.
pub record IsKept (session : Session) (exts : Numbering) (rows : List Row) : Type 0 where
  pub id : session.id < 2 ^ 64
  pub writable : IsWritableSession session
  pub numbers : length exts ≡ 16
  pub words : is_writable_map exts ≡ true
  pub printable : ArePrintable rows

-- A session with neither attributes nor bandwidth.
abbrev pub bare_session : ℕ → Session
bare_session id = record { id = id; bw = None; attrs = [] }

-- An end that has agreed on nothing.
abbrev pub fresh : Session → Numbering → Config → Exchanged
fresh session wanted config =
    record { session = session; wanted = wanted; config = config; pending = None; agreed = [] }

-- An end's state as if an exchange had taken place.
unfoldable pub fixed : Exchanged
fixed = record {
  session = bare_session 0;
  wanted = empty_map;
  config = record { rows = record (opus_row false) { locked = true } ∷ []; distances = [] };
  pending = None;
  agreed = fixed_section ∷ [];
}

-- After an offer of these sections.
abbrev pub with_offer : Exchanged → Option (List Wanted) → Exchanged
with_offer x wanted = record x { pending = wanted }

-- After an exchange with these rows and these agreed sections.
abbrev pub with_agreement : Exchanged → List Row → List Agreed → Exchanged
with_agreement x rows agreed =
    record x { config = record x.config { rows = rows }; pending = None; agreed = agreed }

-- What the answering end agrees on, section by section, from the wanted, the offered and the answered one.
abbrev pub answered_agreement : List Wanted → List Section → List Section → List Agreed
answered_agreement wanted offer answer =
    map (λ s. agreed_by_answer s.0.0 s.0.1 s.1) (zip (zip wanted offer) answer)

-- What the offering end agrees on.
abbrev pub accepted_agreement : List Wanted → List Section → List Agreed
accepted_agreement wanted answer = map (λ s. agreed_by_accept s.0 s.1) (zip wanted answer)

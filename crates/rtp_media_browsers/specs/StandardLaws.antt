-- What the standards say of browsers' texts, in their own words: if a value is told, who opens the connection, and what
-- an end writes.
use Rattle.std.specs.Prelude.{◌≡◌, ◌≢◌, ◌⊎◌, ℕ, Bool, true, false, not, ◌&&◌, IsTrue, List, []}
use Rattle.std.specs.Prelude.{Option, None, Some}
use Rattle.std.specs.List.{list_all}
use Rattle.rtp_media_exchange.specs.Offers.{sdp_of}
use Rattle.rtp_media_sections.specs.Sections.{Section}
use Rattle.sdp_formats_data.specs.ListedCandidates.{section_candidates, session_candidates}
use Rattle.sdp_formats_data.specs.Lookups.{first_of, setup_in}
use Rattle.sdp_formats_data.specs.Preference.{IsPreferred}
use Rattle.sdp_formats_data.specs.Sections as sections
use Rattle.sdp_formats_data.specs.Sessions as sessions
use Rattle.sdp_formats_data.specs.Transport.{section_prints, session_prints}
use Rattle.sdp_formats_data.specs.declared.media.MediaLine.{MediaLine}
use Rattle.sdp_formats_data.specs.declared.session.Session.{Session}
use Rattle.sdp_formats_data.specs.declared.session.SessionAttribute.{SessionAttribute}
use Rattle.sdp_formats_values.specs.declared.setup.Setup.{Setup}
use Rattle.sdp_formats_values.specs.declared.setup.Setup.TheVariants.{ActPass, Active, Passive}
use Rattle.rtp_media_browsers.specs.Fit.{left_over, may_say, settled}
use Rattle.rtp_media_browsers.specs.Laws.{IsEndText}
use Rattle.rtp_media_browsers.specs.Lines.{is_bundle, stays_in_session}
use Rattle.rtp_media_browsers.specs.Remotes.{Tells}
use Rattle.rtp_media_browsers.specs.declared.state.Remote.{Remote}

-- What is told where a section has credentials of its own, if only the session has some, and where neither has.
pub record TellsCreds (s : Session) (m : MediaLine) (remote : Remote) : Type 0 where
  pub own : (ufrag pass : List ℕ) → sections.creds_of m.attrs ≡ Some (ufrag, pass)
      → remote.creds ≡ Some (record { ufrag = ufrag; pass = pass })
  pub shared : (ufrag pass : List ℕ) → sections.creds_of m.attrs ≡ None → sessions.creds_of s.attrs ≡ Some (ufrag, pass)
      → remote.creds ≡ Some (record { ufrag = ufrag; pass = pass })
  pub neither : sections.creds_of m.attrs ≡ None → sessions.creds_of s.attrs ≡ None → remote.creds ≡ None

-- So of the role: that of the section comes before that of the session.
pub record TellsSetup (s : Session) (m : MediaLine) (remote : Remote) : Type 0 where
  pub own : (setup : Setup) → first_of setup_in m.attrs ≡ Some setup → remote.setup ≡ Some setup
  pub shared : first_of setup_in m.attrs ≡ None → remote.setup ≡ first_of sessions.setup_in s.attrs

-- And of candidates: those of the section, or all of the session if it has none.
pub record TellsCandidates (s : Session) (m : MediaLine) (remote : Remote) : Type 0 where
  pub own : section_candidates m ≢ [] → remote.candidates ≡ section_candidates m
  pub shared : section_candidates m ≡ [] → remote.candidates ≡ session_candidates s

-- And of fingerprints: the preferred one of the section's, or that of the session's if it has none (RFC 8122 5).
pub record TellsFingerprint (s : Session) (m : MediaLine) (remote : Remote) : Type 0 where
  pub own : section_prints m ≢ [] → IsPreferred (section_prints m) remote.fingerprint
  pub shared : section_prints m ≡ [] → IsPreferred (session_prints s) remote.fingerprint

-- A value at the level of a section counts before the session's (RFC 8839 5.4, RFC 8842 5, RFC 8122 5).
pub record SectionsComeFirst (s : Session) (m : MediaLine) (remote : Remote) : Type 0 where
  pub creds : TellsCreds s m remote
  pub setup : TellsSetup s m remote
  pub candidates : TellsCandidates s m remote
  pub fingerprint : TellsFingerprint s m remote

abbrev pub TellsByLevels : Type 0
TellsByLevels = (s : Session) (m : MediaLine) (remote : Remote) → Tells s m remote → SectionsComeFirst s m remote

-- The roles (RFC 5763 5, RFC 8842 5.2 and 5.3): only an offer may leave the role to the other end; a role that was
-- settled stays; and the two ends never have one role.
pub record RolesFit : Type 0 where
  pub offer : (before remote : Option Setup) → may_say false ActPass before remote ≡ true
  pub answer : (before remote : Option Setup) → may_say true ActPass before remote ≡ false
  pub stays : (is_answer : Bool) (role before : Setup) (remote : Option Setup)
      → may_say is_answer role (Some before) remote ≡ true → (role ≡ ActPass) ⊎ (role ≡ before)
  pub active : (is_answer : Bool) (before : Option Setup) → may_say is_answer Active before (Some Active) ≡ false
  pub passive : (is_answer : Bool) (before : Option Setup) → may_say is_answer Passive before (Some Passive) ≡ false
  pub left_passive : left_over None (Some Active) ≡ Some Passive
  pub left_active : left_over None (Some Passive) ≡ Some Active
  pub kept : (role : Setup) (remote : Option Setup) → left_over (Some role) remote ≡ Some role
  pub unsettled : (before : Option Setup) → settled before ActPass ≡ before

-- A session line of an end's own that a browser gets as it is: neither of the transport, nor a bundle.
abbrev pub is_own_line : SessionAttribute → Bool
is_own_line a = stays_in_session a && not (is_bundle a)

-- What the offer or answer of an end with such a session says of these sections is a text as ends write it, the premise
-- of `return_law`.
abbrev pub EndsWriteEndTexts : Type 0
EndsWriteEndTexts = (s : Session) (all : List Section) → IsTrue (list_all is_own_line s.attrs)
    → IsEndText (sdp_of s all)

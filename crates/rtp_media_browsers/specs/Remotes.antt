-- What a text says of its transport: in its first section, or else at session level (RFC 8839 5, RFC 8842 5).
use Rattle.std.specs.Prelude.{◌≡◌, ℕ, Bool, false, ◌||◌, List, [], ◌∷◌, codes, nat_eq, Option, None}
use Rattle.std.specs.Cmp.Lexicographic.{pointwise}
use Rattle.std.specs.List.{list_any}
use Rattle.std.specs.Option.{option_map, option_or}
use Rattle.sdp_formats_data.specs.Lookups.{first_of, setup_in}
use Rattle.sdp_formats_data.specs.declared.media.MediaAttribute.{MediaAttribute}
use Rattle.sdp_formats_data.specs.declared.media.MediaAttribute.TheVariants as line
use Rattle.sdp_formats_data.specs.declared.media.MediaLine.{MediaLine}
use Rattle.sdp_formats_data.specs.declared.session.Session.{Session}
use Rattle.sdp_formats_data.specs.declared.session.SessionAttribute.{SessionAttribute}
use Rattle.sdp_formats_data.specs.declared.session.SessionAttribute.TheVariants as session
use Rattle.sdp_formats_grammar.specs.Split.{parts}
use Rattle.sdp_formats_data.specs.ListedCandidates.{section_candidates, session_candidates}
use Rattle.sdp_formats_data.specs.Preference.{IsPreferred}
use Rattle.sdp_formats_data.specs.Sections as sections
use Rattle.sdp_formats_data.specs.Sessions as sessions
use Rattle.sdp_formats_data.specs.Transport.{section_prints, session_prints}
use Rattle.sdp_formats_values.specs.declared.candidate.IceCreds.{IceCreds}
use Rattle.sdp_formats_values.specs.declared.setup.Setup.{Setup}
use Rattle.rtp_media_browsers.specs.declared.state.Remote.{Remote}

-- Nothing is said.
abbrev pub silent : Remote
silent = record {
  creds = None;
  fingerprint = None;
  setup = None;
  candidates = [];
  is_trickling = false;
  is_lite = false;
}

-- The first list, or the second if the first is empty.
abbrev pub else_of : {A : Type 0} → List A → List A → List A
else_of [] ys = ys
else_of (x ∷ xs) ys = x ∷ xs

abbrev pub creds_with : List ℕ × List ℕ → IceCreds
creds_with p = record { ufrag = p.0; pass = p.1 }

abbrev pub creds_told : Session → MediaLine → Option IceCreds
creds_told s m = option_map creds_with (option_or (sections.creds_of m.attrs) (sessions.creds_of s.attrs))

abbrev pub setup_told : Session → MediaLine → Option Setup
setup_told s m = option_or (first_of setup_in m.attrs) (first_of sessions.setup_in s.attrs)

-- Whether `trickle` is one of the words of `a=ice-options` (RFC 8840 4.1).
abbrev pub is_trickle : List ℕ → Bool
is_trickle word = pointwise nat_eq word (codes "trickle")

abbrev pub names_trickle : List ℕ → Bool
names_trickle options = list_any is_trickle (parts 32 options)

unfoldable pub trickles : MediaAttribute → Bool
trickles (line.IceOptions options) = names_trickle options
trickles _ = false

unfoldable pub session_trickles : SessionAttribute → Bool
session_trickles (session.IceOptions options) = names_trickle options
session_trickles _ = false

-- What the text of this session and this first section tells.
pub record Tells (s : Session) (m : MediaLine) (remote : Remote) : Type 0 where
  pub creds : remote.creds ≡ creds_told s m
  pub fingerprint : IsPreferred (else_of (section_prints m) (session_prints s)) remote.fingerprint
  pub setup : remote.setup ≡ setup_told s m
  pub candidates : remote.candidates ≡ else_of (section_candidates m) (session_candidates s)
  pub trickling : remote.is_trickling ≡ (list_any trickles m.attrs || list_any session_trickles s.attrs)
  pub lite : remote.is_lite ≡ list_any sessions.is_lite s.attrs

-- The same for the first of the sections; nothing, if there is none.
abbrev pub TellsFirst : Session → List MediaLine → Remote → Type 0
TellsFirst s [] remote = remote ≡ silent
TellsFirst s (m ∷ ms) remote = Tells s m remote

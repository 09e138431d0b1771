-- What an end is given of a browser's text.
use Rattle.std.specs.Prelude.{◌≡◌, ◌≢◌, ◌⊎◌, ℕ, false, true, List, [], filter, map, if◌then◌else◌}
use Rattle.std.specs.List.{list_any}
use Rattle.std.specs.Option.{unwrap_or}
use Rattle.sdp_formats_data.specs.Lookups.{first_of}
use Rattle.sdp_formats_data.specs.PrintedSession.{sdp_text}
use Rattle.sdp_formats_data.specs.declared.media.MediaLine.{MediaLine}
use Rattle.sdp_formats_data.specs.declared.session.Sdp.{Sdp}
use Rattle.sdp_formats_data.specs.declared.session.Session.{Session}
use Rattle.sdp_formats_data.specs.declared.session.SessionAttribute.{SessionAttribute}
use Rattle.sdp_formats_data.specs.declared.session.SessionAttribute.TheVariants.{Group}
use Rattle.rtp_media_browsers.specs.Fit.{left_over}
use Rattle.rtp_media_browsers.specs.Following.{following}
use Rattle.rtp_media_browsers.specs.Lines.{allows_mixed, bundle_in, is_bundle_name, stays, stays_in_session}
use Rattle.rtp_media_browsers.specs.Names.{is_among, mids_of}
use Rattle.rtp_media_browsers.specs.Places.{answered_places, left, places_from}
use Rattle.rtp_media_browsers.specs.Received.{asked_of}
use Rattle.rtp_media_browsers.specs.Remotes.{TellsFirst}
use Rattle.rtp_media_browsers.specs.declared.state.Place.{Place}
use Rattle.rtp_media_browsers.specs.declared.state.BrowserState.{BrowserState}
use Rattle.rtp_media_browsers.specs.declared.request.SectionRequest.{SectionRequest}

-- A section as an end reads it: a nonzero port, no transport lines.
unfoldable pub end_section : MediaLine → MediaLine
end_section m = record m { disabled = false; attrs = filter (stays m.disabled) m.attrs }

-- A BUNDLE group restricted to these mids.
unfoldable pub restricted : List (List ℕ) → SessionAttribute → SessionAttribute
restricted names (Group typ mids) = Group typ (if is_bundle_name typ then filter (is_among names) mids else mids)
restricted names attribute = attribute

unfoldable pub end_session : List (List ℕ) → Session → Session
end_session names s = record s { attrs = map (restricted names) (filter stays_in_session s.attrs) }

unfoldable pub with_sections : Session → List MediaLine → Sdp
with_sections s ms = record { session = end_session (mids_of ms) s; media_lines = ms }

-- A text without its removed sections, as an end with these sections reads it.
abbrev pub without : List MediaLine → List Place → Sdp → Sdp
without olds places sdp = with_sections sdp.session (following olds (map end_section (left places sdp.media_lines)))

-- What an end is given: the text itself if nothing was removed from it, otherwise the remaining text, printed.
unfoldable pub IsHanded : List ℕ → Sdp → Sdp → List ℕ → Type 0
IsHanded text sdp kept out = ((kept ≡ sdp) × (out ≡ text)) ⊎ ((kept ≢ sdp) × (out ≡ sdp_text kept))

-- The mids of the first BUNDLE group.
abbrev pub bundled : Sdp → List (List ℕ)
bundled sdp = unwrap_or (first_of bundle_in sdp.session.attrs) []

-- What happens to each section of an offer.
abbrev pub places_of : List SectionRequest → Sdp → List Place
places_of requests sdp = places_from (bundled sdp) requests 0 sdp.media_lines

-- What is remembered of an offer.
pub record IsPlanned (before : BrowserState) (requests : List SectionRequest) (sdp : Sdp)
    (after : BrowserState) : Type 0 where
  pub places : after.places ≡ places_of requests sdp
  pub sections : after.sections ≡ (without before.sections (places_of requests sdp) (asked_of requests sdp)).media_lines
  pub mixed : after.allows_mixed ≡ list_any allows_mixed sdp.session.attrs
  pub remote : TellsFirst sdp.session (left (places_of requests sdp) sdp.media_lines) after.remote
  pub setup : after.setup ≡ before.setup
  pub answering : after.is_answering ≡ true
  pub identity : after.identity ≡ before.identity
  pub said : after.said ≡ before.said

-- The places after the browser's answer.
abbrev pub places_behind : BrowserState → Sdp → List Place
places_behind state sdp = answered_places state.places sdp.media_lines

-- The state after an answer: the DTLS role is the one the answer leaves, if none was settled before.
pub record IsAnswered (before : BrowserState) (sdp : Sdp) (after : BrowserState) : Type 0 where
  pub places : after.places ≡ places_behind before sdp
  pub sections : after.sections ≡ (without before.sections (places_behind before sdp) sdp).media_lines
  pub mixed : after.allows_mixed ≡ before.allows_mixed
  pub remote : TellsFirst sdp.session (left (places_behind before sdp) sdp.media_lines) after.remote
  pub setup : after.setup ≡ left_over before.setup after.remote.setup
  pub answering : after.is_answering ≡ before.is_answering
  pub identity : after.identity ≡ before.identity
  pub said : after.said ≡ before.said

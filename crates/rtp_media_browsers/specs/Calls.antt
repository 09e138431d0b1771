-- What the calls promise.
use Rattle.std.specs.Prelude.{◌≡◌, ◌⊎◌, ℕ, false, if◌then◌else◌, List, map, Option, None, Some}
use Rattle.sdp_formats_data.specs.declared.session.Sdp.{Sdp}
use Rattle.rtp_media_browsers.specs.Fit.{settled}
use Rattle.rtp_media_browsers.specs.ForBrowsers.{for_browser}
use Rattle.rtp_media_browsers.specs.ForEnds.{IsAnswered, IsHanded, IsPlanned, places_behind, places_of}
use Rattle.rtp_media_browsers.specs.ForEnds.{without}
use Rattle.rtp_media_browsers.specs.Identities.{said_of, told_text}
use Rattle.rtp_media_browsers.specs.Places.{freed}
use Rattle.rtp_media_browsers.specs.Reading.{IsUnread, SaysWhole}
use Rattle.rtp_media_browsers.specs.Received.{asked_of}
use Rattle.rtp_media_browsers.specs.Refusals.{answer_refusal, browser_refusal, offer_refusal}
use Rattle.rtp_media_browsers.specs.declared.error.BrowserError.{BrowserError}
use Rattle.rtp_media_browsers.specs.declared.error.BrowserError.TheVariants.{NotWritable}
use Rattle.rtp_media_browsers.specs.declared.state.Place.{Place}
use Rattle.rtp_media_browsers.specs.declared.state.BrowserState.{BrowserState}
use Rattle.rtp_media_browsers.specs.declared.transport.Transport.{Transport}
use Rattle.rtp_media_browsers.specs.declared.request.SectionRequest.{SectionRequest}

-- Why a text is refused: it can't be read completely, or what it says is refused.
abbrev pub IsRefused : List ℕ → (Sdp → Option BrowserError) → BrowserError → Type 0
IsRefused text refusal e = IsUnread text e ⊎ ((sdp : Sdp) × (SaysWhole text sdp × (refusal sdp ≡ Some e)))

abbrev pub RefusesOffer : List ℕ → BrowserState → List SectionRequest → BrowserError → Type 0
RefusesOffer text state requests e = IsRefused text (offer_refusal text state requests) e

abbrev pub RefusesAnswer : List ℕ → BrowserState → BrowserError → Type 0
RefusesAnswer text state e = IsRefused text (answer_refusal text state) e

-- An offer that is passed on to an end: its contents, that nothing refuses it, the state afterwards, and the text
-- passed on.
pub record OfferPasses (text : List ℕ) (requests : List SectionRequest) (before after : BrowserState)
    (out : List ℕ) : Type 0 where
  pub sdp : Sdp
  pub says : SaysWhole text sdp
  pub passes : offer_refusal text before requests sdp ≡ None
  pub planned : IsPlanned before requests sdp after
  pub handed : IsHanded text sdp (without before.sections (places_of requests sdp) (asked_of requests sdp)) out

-- The same of an answer.
pub record AnswerPasses (text : List ℕ) (before after : BrowserState) (out : List ℕ) : Type 0 where
  pub sdp : Sdp
  pub says : SaysWhole text sdp
  pub passes : answer_refusal text before sdp ≡ None
  pub answered : IsAnswered before sdp after
  pub handed : IsHanded text sdp (without before.sections (places_behind before sdp) sdp) out

-- The places after a text for the browser: an answer says port 0 of what isn't answered, so these places are free.
abbrev pub told_places : BrowserState → List Place
told_places state = if state.is_answering then map freed state.places else state.places

-- The text for a browser: reading it gives what the end's text says, plus the transport's lines and the sections that
-- were taken out.
pub record HasTransport (text : List ℕ) (before : BrowserState) (t : Transport) (after : BrowserState)
    (out : List ℕ) : Type 0 where
  pub sdp : Sdp
  pub says : SaysWhole text sdp
  pub passes : browser_refusal before t sdp ≡ None
  pub settles : after ≡ record before {
    places = told_places before;
    setup = settled before.setup t.setup;
    is_answering = false;
    said = Some (said_of before.identity before.said (for_browser before t sdp));
  }
  pub with_transport : out ≡ told_text before.identity before.said (for_browser before t sdp)
  pub read : SaysWhole out (for_browser before t sdp)

-- The text made for the browser doesn't read back as what it should say.
abbrev pub IsUnwritable : List ℕ → BrowserState → Transport → Type 0
IsUnwritable text state t = (sdp : Sdp) × (SaysWhole text sdp × (browser_refusal state t sdp ≡ None)
    × (SaysWhole (told_text state.identity state.said (for_browser state t sdp)) (for_browser state t sdp) → ⊥))

-- Why no text is made: the end's text can't be read completely, it is refused, or the result can't be written.
abbrev pub HasNoTransport : List ℕ → BrowserState → Transport → BrowserError → Type 0
HasNoTransport text state t e = IsRefused text (browser_refusal state t) e
    ⊎ ((e ≡ NotWritable) × IsUnwritable text state t)

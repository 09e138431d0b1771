-- What holds of a whole text for a browser: of any, and of an answer, to its first offer or a later one.
use Rattle.std.specs.Prelude.{◌≡◌, ◌≤◌, ℕ, suc, Bool, true, false, not, IsTrue, List, [], ◌∷◌, map, None, length}
use Rattle.std.specs.Prelude.{slice_get}
use Rattle.std.specs.List.{list_all}
use Rattle.sdp_formats_data.specs.declared.media.MediaLine.{MediaLine}
use Rattle.sdp_formats_data.specs.declared.session.Sdp.{Sdp}
use Rattle.rtp_media_browsers.specs.Following.{is_new}
use Rattle.rtp_media_browsers.specs.ForBrowsers.{for_browser, is_in_use, names_in_use}
use Rattle.rtp_media_browsers.specs.ForEnds.{bundled, places_of}
use Rattle.rtp_media_browsers.specs.Laws.{AreBundlesOf, is_end_section}
use Rattle.rtp_media_browsers.specs.Names.{mids_of}
use Rattle.rtp_media_browsers.specs.Places.{is_taken}
use Rattle.rtp_media_browsers.specs.Refusals.{browser_refusal}
use Rattle.rtp_media_browsers.specs.declared.state.BrowserState.{BrowserState}
use Rattle.rtp_media_browsers.specs.declared.transport.Transport.{Transport}
use Rattle.rtp_media_browsers.specs.declared.request.SectionRequest.{SectionRequest}

-- Which sections of an offer are answered, from the n-th on: those that aren't taken out.
abbrev pub answered_from : List (List ℕ) → List SectionRequest → ℕ → List MediaLine → List Bool
answered_from bundle requests n [] = []
answered_from bundle requests n (m ∷ ms) =
    not (is_taken bundle (slice_get requests n) m) ∷ answered_from bundle requests (suc n) ms

-- The names of these sections.
abbrev pub names_answered : List Bool → List (List ℕ) → List (List ℕ)
names_answered [] names = []
names_answered (b ∷ bs) [] = []
names_answered (false ∷ bs) (name ∷ names) = names_answered bs names
names_answered (true ∷ bs) (name ∷ names) = name ∷ names_answered bs names

abbrev pub answered_in : List SectionRequest → Sdp → List Bool
answered_in requests offer = answered_from (bundled offer) requests 0 offer.media_lines

-- An answer has a section for each of the offer's, in its place and under its name (RFC 3264 6, RFC 8829 5.3.1). Port 0
-- is that of exactly those that are taken out, and a bundle names exactly the others (RFC 9143 7.3.3).
pub record IsAnswerTo (requests : List SectionRequest) (offer answer : Sdp) : Type 0 where
  pub names : mids_of answer.media_lines ≡ mids_of offer.media_lines
  pub ports : map is_in_use answer.media_lines ≡ answered_in requests offer
  pub bundles : AreBundlesOf (names_answered (answered_in requests offer) (mids_of offer.media_lines))
      answer.session.attrs

-- So is what a browser gets for its offer, once the state has the offer's places, of an end's text that adds no
-- section.
abbrev pub AnswersEachSection : Type 0
AnswersEachSection = (state : BrowserState) (t : Transport) (requests : List SectionRequest) (offer sdp : Sdp)
    → state.places ≡ places_of requests offer → browser_refusal state t sdp ≡ None
    → IsTrue (list_all is_end_section sdp.media_lines)
    → IsTrue (list_all (λ m. not (is_new state.sections m)) sdp.media_lines)
    → IsAnswerTo requests offer (for_browser state t sdp)

-- Any text for a browser, the end's offers too, has at least as many sections as there are places: none is taken away
-- (RFC 3264 8). A bundle names exactly those whose port isn't 0 (RFC 9143 7.3.3).
pub record IsWholeText (state : BrowserState) (text : Sdp) : Type 0 where
  pub sections : length state.places ≤ length text.media_lines
  pub bundles : AreBundlesOf (names_in_use text.media_lines) text.session.attrs

abbrev pub TextsAreWhole : Type 0
TextsAreWhole = (state : BrowserState) (t : Transport) (sdp : Sdp) → browser_refusal state t sdp ≡ None
    → IsWholeText state (for_browser state t sdp)

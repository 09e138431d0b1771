-- Whole texts that come back.
use Rattle.std.proofs.Common.{◌≡◌, ◌∙◌, ap, refl, subst, ℕ, true, Bool, List, [], ◌∷◌, map, length, not, slice_get}
use Rattle.std.proofs.Common.{false, filter}
use Rattle.std.proofs.Common.{arith}
use Rattle.std.specs.List.{list_all}
use Rattle.sdp_formats_data.specs.declared.media.MediaLine.{MediaLine}
use Rattle.sdp_formats_data.specs.declared.session.Sdp.{Sdp}
use Rattle.sdp_formats_data.specs.declared.session.Session.{Session}
use Rattle.rtp_media_browsers.specs.Following.{is_new}
use Rattle.rtp_media_browsers.specs.ForBrowsers.{section_with_transport, session_with_transport, for_browser, is_in_use}
use Rattle.rtp_media_browsers.specs.ForBrowsers.{shown}
use Rattle.rtp_media_browsers.specs.ForBrowsers.{told_section}
use Rattle.rtp_media_browsers.specs.ForEnds.{bundled, end_section, places_of, with_sections, without}
use Rattle.rtp_media_browsers.specs.Listing.{listed_for}
use Rattle.rtp_media_browsers.specs.Laws.{AllAccepted, ComesBack, IsEndText, NothingChanges, first, is_end_section}
use Rattle.rtp_media_browsers.specs.Names.{mids_of}
use Rattle.rtp_media_browsers.specs.Places.{is_accepted}
use Rattle.rtp_media_browsers.specs.Received.{asked_of, is_received}
use Rattle.rtp_media_browsers.specs.declared.state.BrowserState.{BrowserState}
use Rattle.rtp_media_browsers.specs.declared.transport.Transport.{Transport}
use Rattle.rtp_media_browsers.specs.declared.request.SectionRequest.{SectionRequest}
use Rattle.rtp_media_browsers.proofs.AsAsked.{accepted_whole}
use Rattle.rtp_media_browsers.proofs.WithTransport.{both_of}
use Rattle.rtp_media_browsers.proofs.EachAnswered.{own_bundles}
use Rattle.rtp_media_browsers.proofs.Inside.{are_inside}
use Rattle.rtp_media_browsers.proofs.Placed.{Accepts, AreUsed, all_left}
use Rattle.rtp_media_browsers.proofs.Returning.{in_use, media, mids_same, sections_back, sections_same}
use Rattle.rtp_media_browsers.proofs.SessionBack.{session_back, session_same}

used : (ms : List MediaLine) → list_all is_end_section ms ≡ true → AreUsed ms
used [] h = tt
used (m ∷ ms) h =
    let here = both_of (is_end_section m) (list_all is_end_section ms) h in
    ((media m here.0, in_use m here.0), used ms here.1)

used_with_transport : (t : Transport) (ms : List MediaLine) → list_all is_end_section ms ≡ true
    → AreUsed (map (section_with_transport t) ms)
unfolding section_with_transport
used_with_transport t [] h = tt
used_with_transport t (m ∷ ms) h =
    let here = both_of (is_end_section m) (list_all is_end_section ms) h in
    ((media m here.0, in_use m here.0), used_with_transport t ms here.1)

accepts : (requests : List SectionRequest) (count : ℕ) → AllAccepted requests count → Accepts requests 0 count
accepts requests count all k low high =
    (both_of (is_accepted (slice_get requests k)) (not (is_received (slice_get requests k))) (all k (omega arith))).0

-- to an end without sections each one is new
all_new : (ms : List MediaLine) → filter (is_new []) ms ≡ ms
all_new [] = refl
all_new (m ∷ ms) = ap (λ (xs : List MediaLine). m ∷ xs) (all_new ms)

in_use_same : (t : Transport) (ms : List MediaLine) → list_all is_end_section ms ≡ true
    → filter is_in_use (map (section_with_transport t) ms) ≡ map (section_with_transport t) ms
unfolding is_in_use section_with_transport
in_use_same t [] h = refl
in_use_same t (m ∷ ms) h =
    let here = both_of (is_end_section m) (list_all is_end_section ms) h in
    rw (in_use m here.0, in_use_same t ms here.1) refl

pub nothing_changes : NothingChanges
unfolding with_sections
nothing_changes requests sdp is all =
    let left = all_left (bundled sdp) requests 0 sdp.media_lines (used sdp.media_lines is.sections)
    (are_inside (mids_of sdp.media_lines) sdp.session.attrs sdp.media_lines refl is.bundles)
    (accepts requests (length sdp.media_lines) all) in
    let same = ap (map end_section) left ∙ sections_same sdp.media_lines is.sections in
    ap (λ (s : Sdp). without [] (places_of requests sdp) s) (accepted_whole requests sdp all)
    ∙ ap (λ (ms : List MediaLine). with_sections sdp.session (filter (is_new []) ms)) same
    ∙ ap (with_sections sdp.session) (all_new sdp.media_lines)
    ∙ (λ i. record {
      session = session_same (mids_of sdp.media_lines) sdp.session is.session is.groups i;
      media_lines = sdp.media_lines;
    })

module _ (state : BrowserState) (t : Transport) (sdp : Sdp) (is : IsEndText sdp) where
  abbrev with_transport : List MediaLine
  with_transport = map (section_with_transport t) sdp.media_lines

  abbrev own : Session
  own = session_with_transport (mids_of sdp.media_lines) state.allows_mixed t.is_lite sdp.session

  listed_same : (b : Bool) (m : MediaLine) → listed_for b [] m ≡ m
  listed_same true m = refl
  listed_same false m = refl

  told_same : (ms : List MediaLine) → map (told_section (first state) t) ms ≡ map (section_with_transport t) ms
  told_same [] = refl
  told_same (m ∷ ms) = λ i. listed_same state.is_answering (section_with_transport t m) i ∷ told_same ms i

  -- what a browser gets of a first text
  shown_as : for_browser (first state) t sdp ≡ record { session = own; media_lines = with_transport }
  unfolding shown
  shown_as =
      let same = in_use_same t sdp.media_lines is.sections in
      let names = ap mids_of same ∙ mids_same t sdp.media_lines in
      ap (λ (ms : List MediaLine). shown (first state) t sdp.session (filter (is_new []) ms))
      (told_same sdp.media_lines)
      ∙ ap (shown (first state) t sdp.session) (all_new with_transport)
      ∙ (λ i. record {
        session = session_with_transport (names i) state.allows_mixed t.is_lite sdp.session;
        media_lines = with_transport;
      })

  back : (requests : List SectionRequest) → AllAccepted requests (length with_transport)
      → without [] (places_of requests (record { session = own; media_lines = with_transport }))
      (asked_of requests (record { session = own; media_lines = with_transport })) ≡ sdp
  unfolding with_sections
  back requests all =
      let b : Sdp = record { session = own; media_lines = with_transport } in
      let left = all_left (bundled b) requests 0 with_transport (used_with_transport t sdp.media_lines is.sections)
      (are_inside (mids_of sdp.media_lines) own.attrs with_transport (mids_same t sdp.media_lines)
      (own_bundles (mids_of sdp.media_lines) state.allows_mixed t.is_lite sdp.session))
      (accepts requests (length with_transport) all) in
      let same = ap (map end_section) left ∙ sections_back t sdp.media_lines is.sections in
      ap (λ (s : Sdp). without [] (places_of requests b) s) (accepted_whole requests b all)
      ∙ ap (λ (ms : List MediaLine). with_sections own (filter (is_new []) ms)) same
      ∙ ap (with_sections own) (all_new sdp.media_lines)
      ∙ (λ i. record {
        session = session_back (mids_of sdp.media_lines) sdp.session is.session is.groups is.bundles
            state.allows_mixed t.is_lite i;
        media_lines = sdp.media_lines;
      })

pub comes_back : ComesBack
comes_back state t requests sdp is all =
    let same = shown_as state t sdp is in
    ap (λ (b : Sdp). without [] (places_of requests b) (asked_of requests b)) same
    ∙ back state t sdp is requests (subst (λ (b : Sdp). AllAccepted requests (length b.media_lines)) same all)

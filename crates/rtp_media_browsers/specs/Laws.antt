-- What holds of texts that go to a browser and come back.
use Rattle.std.specs.Prelude.{◌≡◌, ◌<◌, ◌+◌, ℕ, Bool, true, false, not, ◌&&◌, ◌||◌, IsTrue, List, [], ◌∷◌, filter}
use Rattle.std.specs.Prelude.{suc, take, drop, length, map, slice_get, Option, None, Some}
use Rattle.std.specs.List.{flat_map, list_all}
use Rattle.std.specs.Option.{option_or}
use Rattle.rtp_media_sections.specs.Lines.{kind_of, mid_of, sources_in}
use Rattle.rtp_media_sections.specs.Sections.{Wanted}
use Rattle.rtp_wire.specs.declared.direction.Direction.TheVariants as way
use Rattle.sdp_formats_data.specs.Lookups.{direction_of}
use Rattle.sdp_formats_values.specs.MediaTypes.{is_media}
use Rattle.sdp_formats_data.specs.declared.media.MediaAttribute.{MediaAttribute}
use Rattle.sdp_formats_data.specs.declared.media.MediaLine.{MediaLine}
use Rattle.sdp_formats_data.specs.declared.session.Sdp.{Sdp}
use Rattle.sdp_formats_data.specs.declared.session.SessionAttribute.{SessionAttribute}
use Rattle.sdp_formats_data.specs.declared.session.SessionAttribute.TheVariants.{Group}
use Rattle.sdp_formats_data.specs.Sections.{extmap_in}
use Rattle.rtp_media_browsers.specs.ForBrowsers.{section_with_transport, for_browser}
use Rattle.rtp_media_browsers.specs.Following.{following, halted, is_new, section_named}
use Rattle.rtp_media_browsers.specs.ForEnds.{end_section, places_of, without}
use Rattle.rtp_media_browsers.specs.Lines.{is_bundle_name, is_transport, stays_in_session}
use Rattle.rtp_media_browsers.specs.Names.{is_among, mids_of}
use Rattle.rtp_media_browsers.specs.Places.{is_accepted, placed, rejected}
use Rattle.rtp_media_browsers.specs.Received.{asked_of, is_received}
use Rattle.rtp_media_browsers.specs.Refusals.{begin_with, is_found}
use Rattle.rtp_media_browsers.specs.Wanted.{wanted_of}
use Rattle.rtp_media_browsers.specs.declared.state.Place.{Place}
use Rattle.rtp_media_browsers.specs.declared.state.Place.TheVariants.{Free, Kept, Taken}
use Rattle.rtp_media_browsers.specs.declared.state.BrowserState.{BrowserState}
use Rattle.rtp_media_browsers.specs.declared.transport.Transport.{Transport}
use Rattle.rtp_media_browsers.specs.declared.request.SectionRequest.{SectionRequest}

abbrev pub has_no_transport : List MediaAttribute → Bool
has_no_transport attributes = list_all (λ a. not (is_transport a)) attributes

-- A section as an end writes it: audio or video, not rejected, without transport lines.
abbrev pub is_end_section : MediaLine → Bool
is_end_section m = is_media m.typ && (not m.disabled && has_no_transport m.attrs)

-- A BUNDLE group contains only these mids.
unfoldable pub names_only : List (List ℕ) → SessionAttribute → Bool
names_only names (Group typ mids) = not (is_bundle_name typ) || list_all (is_among names) mids
names_only names _ = true

-- A BUNDLE group contains exactly these mids.
unfoldable pub IsBundleOf : List (List ℕ) → SessionAttribute → Type 0
IsBundleOf names (Group typ mids) = IsTrue (is_bundle_name typ) → mids ≡ names
IsBundleOf names _ = Unit {0}

abbrev pub AreBundlesOf : List (List ℕ) → List SessionAttribute → Type 0
AreBundlesOf names [] = Unit {0}
AreBundlesOf names (a ∷ as') = IsBundleOf names a × AreBundlesOf names as'

-- A text as an end writes it.
pub record IsEndText (sdp : Sdp) : Type 0 where
  pub sections : IsTrue (list_all is_end_section sdp.media_lines)
  pub session : IsTrue (list_all stays_in_session sdp.session.attrs)
  pub groups : IsTrue (list_all (names_only (mids_of sdp.media_lines)) sdp.session.attrs)
  pub bundles : AreBundlesOf (mids_of sdp.media_lines) sdp.session.attrs

-- Each of the first `count` sections is accepted, and not only for receiving.
abbrev pub is_whole : Option SectionRequest → Bool
is_whole request = is_accepted request && not (is_received request)

abbrev pub AllAccepted : List SectionRequest → ℕ → Type 0
AllAccepted requests count = (n : ℕ) → n < count → IsTrue (is_whole (slice_get requests n))

-- Every removed section is rejected.
abbrev pub AreRejections : List Place → Type 0
AreRejections [] = Unit {0}
AreRejections (Kept name ∷ ps) = AreRejections ps
AreRejections (Taken r ∷ ps) = ((m : MediaLine) × (r ≡ rejected m)) × AreRejections ps
AreRejections (Free r ∷ ps) = ((m : MediaLine) × (r ≡ rejected m)) × AreRejections ps

-- If nothing needs to be removed, a first text is unchanged for an end.
abbrev pub NothingChanges : Type 0
NothingChanges = (requests : List SectionRequest) (sdp : Sdp) → IsEndText sdp
    → AllAccepted requests (length sdp.media_lines)
    → without [] (places_of requests sdp) (asked_of requests sdp) ≡ sdp

-- A state of an end that has no section yet, and of which a browser is told nothing else.
abbrev pub first : BrowserState → BrowserState
first state = record state { places = []; sections = []; identity = None }

-- A first text made for a browser, stripped again for an end, is the original text.
abbrev pub ComesBack : Type 0
ComesBack = (state : BrowserState) (t : Transport) (requests : List SectionRequest) (sdp : Sdp) → IsEndText sdp
    → AllAccepted requests (length (for_browser (first state) t sdp).media_lines)
    → without [] (places_of requests (for_browser (first state) t sdp))
    (asked_of requests (for_browser (first state) t sdp))
    ≡ sdp

-- So is each section of any text.
abbrev pub SectionsComeBack : Type 0
SectionsComeBack = (t : Transport) (m : MediaLine) → IsTrue (is_end_section m)
    → end_section (section_with_transport t m) ≡ m

-- How many places are free.
abbrev pub free_in : List Place → ℕ
free_in [] = 0
free_in (Kept name ∷ ps) = free_in ps
free_in (Taken r ∷ ps) = free_in ps
free_in (Free r ∷ ps) = suc (free_in ps)

-- The sections that a browser gets: at its place each one that was taken out, and each of the end that has one, by its
-- name; those that are new at the free places, in order, and after all places (RFC 8829 5.2.2). A free place for which
-- there is none keeps what was rejected there.
pub record ArePlaced (ps : List Place) (olds ms all : List MediaLine) : Type 0 where
  pub taken : (n : ℕ) (r : MediaLine) → slice_get ps n ≡ Some (Taken r) → slice_get all n ≡ Some r
  pub kept : (n : ℕ) (name : List ℕ) → slice_get ps n ≡ Some (Kept name) → slice_get all n ≡ section_named ms name
  pub free : (n : ℕ) (r : MediaLine) → slice_get ps n ≡ Some (Free r)
      → slice_get all n ≡ option_or (slice_get (filter (is_new olds) ms) (free_in (take n ps))) (Some r)
  pub added : drop (length ps) all ≡ drop (free_in ps) (filter (is_new olds) ms)

abbrev pub EachInItsPlace : Type 0
EachInItsPlace = (ps : List Place) (olds ms : List MediaLine) → IsTrue (list_all (is_found (mids_of ms)) ps)
    → ArePlaced ps olds ms (placed ps olds ms)

-- Whatever a browser stops, an end is handed its own sections first and in its order. A section of the browser's is as
-- it is there; one that isn't there any more is inactive.
pub record GoesOn (olds ms : List MediaLine) : Type 0 where
  pub begins : IsTrue (begin_with (mids_of olds) (following olds ms))
  pub length : length (following olds ms) ≡ length olds + length (filter (is_new olds) ms)
  pub there : (n : ℕ) (old m : MediaLine) → slice_get olds n ≡ Some old → section_named ms (mid_of old) ≡ Some m
      → slice_get (following olds ms) n ≡ Some m
  pub stopped : (n : ℕ) (old : MediaLine) → slice_get olds n ≡ Some old → section_named ms (mid_of old) ≡ None
      → slice_get (following olds ms) n ≡ Some (halted old)

-- The sections to answer with have the names and kinds of those that the end is handed, in their order.
pub record AreWanted (state : BrowserState) (requests : List SectionRequest) : Type 0 where
  pub names : map (λ (w : Wanted). w.mid) (wanted_of state requests) ≡ mids_of state.sections
  pub kinds : map (λ (w : Wanted). w.kind) (wanted_of state requests) ≡ map (λ (m : MediaLine). kind_of m.typ)
      state.sections

-- A section that is stopped keeps its name, its kind and its payload types, and no media flows.
pub record IsHalted (m : MediaLine) : Type 0 where
  pub name : mid_of (halted m) ≡ mid_of m
  pub kind : (halted m).typ ≡ m.typ
  pub types : (halted m).pts ≡ m.pts
  pub direction : direction_of (halted m).attrs ≡ way.Inactive
  pub sources : sources_in (halted m).attrs ≡ []

-- Every line of a section that isn't a transport line keeps its position, and so do its direction, header extensions,
-- mid, kind and payload types.
pub record LinesStay (t : Transport) (m : MediaLine) : Type 0 where
  pub lines : (p : MediaAttribute → Bool) → ((a : MediaAttribute) → IsTrue (is_transport a) → p a ≡ false)
      → filter p (section_with_transport t m).attrs ≡ filter p m.attrs
  pub direction : direction_of (section_with_transport t m).attrs ≡ direction_of m.attrs
  pub extensions : flat_map extmap_in (section_with_transport t m).attrs ≡ flat_map extmap_in m.attrs
  pub name : mid_of (section_with_transport t m) ≡ mid_of m
  pub types : (section_with_transport t m).pts ≡ m.pts
  pub kind : (section_with_transport t m).typ ≡ m.typ

-- Only rejected sections are removed from an offer.
abbrev pub TakenAreRejected : Type 0
TakenAreRejected = (requests : List SectionRequest) (sdp : Sdp) → AreRejections (places_of requests sdp)

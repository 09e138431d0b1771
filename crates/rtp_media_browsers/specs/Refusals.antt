-- Why a browser's text is refused; of several reasons the first in this list is given.
use Rattle.std.specs.Prelude.{◌≡◌, ℕ, Bool, true, false, not, ◌&&◌, ◌==◌, nat_lt, List, [], ◌∷◌, count_by, length}
use Rattle.std.specs.Prelude.{Option, Some, None, Result, Ok, Err, if◌then◌else◌}
use Rattle.std.specs.List.{list_all, list_any}
use Rattle.std.specs.Option.{option_map, option_or}
use Rattle.rtp_media_sections.specs.Lines.{mid_of}
use Rattle.sdp_formats_data.specs.Lookups.{first_of}
use Rattle.sdp_formats_data.specs.declared.media.MediaLine.{MediaLine}
use Rattle.sdp_formats_data.specs.declared.session.Sdp.{Sdp}
use Rattle.sdp_formats_data.specs.declared.session.Session.{Session}
use Rattle.sdp_formats_data.specs.Transport.{section_prints, session_prints}
use Rattle.sdp_formats_data.specs.WholeTexts.{are_apart, is_name}
use Rattle.rtp_media_browsers.specs.Fit.{are_ice_chars, may_say}
use Rattle.rtp_media_browsers.specs.ForEnds.{bundled, places_behind, places_of}
use Rattle.rtp_media_browsers.specs.Lines.{is_bundle, is_crypto}
use Rattle.rtp_media_browsers.specs.Names.{changed_name, is_among, mids_of}
use Rattle.rtp_media_browsers.specs.Places.{left}
use Rattle.rtp_media_browsers.specs.declared.error.BrowserError.{BrowserError}
use Rattle.rtp_media_browsers.specs.declared.error.BrowserError.TheVariants as error
use Rattle.rtp_media_browsers.specs.declared.state.Place.{Place}
use Rattle.rtp_media_browsers.specs.declared.state.Place.TheVariants.{Free, Kept, Taken}
use Rattle.rtp_media_browsers.specs.declared.state.BrowserState.{BrowserState}
use Rattle.rtp_media_browsers.specs.declared.transport.Transport.{Transport}
use Rattle.rtp_media_browsers.specs.declared.request.SectionRequest.{SectionRequest}

-- A check passes if and only if there is no refusal; otherwise it returns the refusal.
abbrev pub Checks : {A : Type 0} → Option BrowserError → Result A BrowserError → Type 0
Checks refusal (Ok a) = refusal ≡ None
Checks refusal (Err error.Memory) = Unit {0}
Checks refusal (Err e) = refusal ≡ Some e

abbrev pub refused_if : Bool → BrowserError → Option BrowserError
refused_if b e = if b then Some e else None

abbrev pub twice_refusal : List MediaLine → Option BrowserError
twice_refusal ms = refused_if (not (are_apart (mids_of ms))) error.MidTwice

-- A mid that reading changes; a mid that occurs twice.
abbrev pub name_refusal : List ℕ → List MediaLine → Option BrowserError
name_refusal text ms = option_or (option_map error.MidNotKept (changed_name text)) (twice_refusal ms)

abbrev pub outside_in : List (List ℕ) → MediaLine → Option BrowserError
outside_in bundle m = refused_if (not (is_among bundle (mid_of m))) (error.OutsideBundle (mid_of m))

-- Neither the section nor the session has a fingerprint.
abbrev pub has_no_print : Session → MediaLine → Bool
has_no_print s m = length (section_prints m) == 0 && length (session_prints s) == 0

-- SDES keys (`a=crypto`) in the section, but no fingerprint.
abbrev pub keys_in : Session → MediaLine → Option BrowserError
keys_in s m = refused_if (list_any is_crypto m.attrs && has_no_print s m) (error.KeysAlone (mid_of m))

-- Neither the browser's text nor the end has a section.
abbrev pub has_none : List MediaLine → List MediaLine → Bool
has_none olds ms = length ms == 0 && length olds == 0

-- An end has a single transport: there is one BUNDLE group, these sections are all in it, and none uses SDES keys
-- alone.
abbrev pub bundle_refusal : List MediaLine → Sdp → List MediaLine → Option BrowserError
bundle_refusal olds sdp ms =
    option_or (refused_if (nat_lt 1 (count_by is_bundle sdp.session.attrs)) error.SeveralBundles)
    (option_or (first_of (outside_in (bundled sdp)) ms)
    (option_or (refused_if (has_none olds ms) error.NothingLeft) (first_of (keys_in sdp.session) ms)))

-- Why an offer isn't answered by an end with these sections, given those that remain of it.
abbrev pub offer_test : List ℕ → List MediaLine → Sdp → List MediaLine → Option BrowserError
offer_test text olds sdp ms = option_or (name_refusal text sdp.media_lines) (bundle_refusal olds sdp ms)

abbrev pub offer_refusal : List ℕ → BrowserState → List SectionRequest → Sdp → Option BrowserError
offer_refusal text state requests sdp = offer_test text state.sections sdp
    (left (places_of requests sdp) sdp.media_lines)

-- Whether a section may be at this place of an answer: under its name, or under any at a free one, which the offer may
-- have used again.
unfoldable pub may_be_at : Place → MediaLine → Bool
may_be_at (Kept name) m = is_name name (mid_of m)
may_be_at (Taken r) m = is_name (mid_of r) (mid_of m)
may_be_at (Free r) m = true

-- Whether the sections start with those of these places.
abbrev pub are_at : List Place → List MediaLine → Bool
are_at [] ms = true
are_at (p ∷ ps) [] = false
are_at (p ∷ ps) (m ∷ ms) = may_be_at p m && are_at ps ms

-- Whether the sections start with these mids.
abbrev pub begin_with : List (List ℕ) → List MediaLine → Bool
begin_with [] ms = true
begin_with (name ∷ names) [] = false
begin_with (name ∷ names) (m ∷ ms) = is_name name (mid_of m) && begin_with names ms

abbrev pub rejected_in : MediaLine → Option BrowserError
rejected_in m = refused_if m.disabled (error.Rejected (mid_of m))

-- Why an answer isn't accepted, given its remaining sections.
abbrev pub answer_test : List ℕ → BrowserState → Sdp → List MediaLine → Option BrowserError
answer_test text state sdp ms = option_or (name_refusal text sdp.media_lines)
    (option_or (refused_if (not (are_at state.places sdp.media_lines)) error.NotCorresponding)
    (option_or (first_of rejected_in ms) (bundle_refusal state.sections sdp ms)))

abbrev pub answer_refusal : List ℕ → BrowserState → Sdp → Option BrowserError
answer_refusal text state sdp = answer_test text state sdp (left (places_behind state sdp) sdp.media_lines)

-- Whether a section of the place's name is there, if one is asked for.
unfoldable pub is_found : List (List ℕ) → Place → Bool
is_found names (Kept name) = is_among names name
is_found names _ = true

-- Whether a text has the end's sections, in order, and those of the state.
abbrev pub has_planned : BrowserState → List MediaLine → Bool
has_planned state ms = begin_with (mids_of state.sections) ms && list_all (is_found (mids_of ms)) state.places

-- Why an end's text, or its transport, can't be used for a browser.
abbrev pub browser_refusal : BrowserState → Transport → Sdp → Option BrowserError
browser_refusal state t sdp = option_or (refused_if (not (are_ice_chars 4 t.creds.ufrag)) error.UfragNotFit)
    (option_or (refused_if (not (are_ice_chars 22 t.creds.pass)) error.PasswordNotFit)
    (option_or (refused_if (not (may_say state.is_answering t.setup state.setup state.remote.setup)) error.SetupNotFit)
    (refused_if (not (has_planned state sdp.media_lines)) error.NotCorresponding)))

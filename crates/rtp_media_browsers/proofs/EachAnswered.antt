-- An answer for a browser, section by section.
use Rattle.std.proofs.Common.{◌≡◌, ◌∙◌, ap, sym, refl, subst, ℕ, suc, Bool, true, false, not, cond, List, [], ◌∷◌, ◌++◌}
use Rattle.std.proofs.Common.{◌≤◌, Option, None, Some, arith, filter, length, map, slice_get}
use Rattle.std.proofs.lemmas.List.{length-append}
use Rattle.std.specs.List.{list_all}
use Rattle.std.specs.Option.{option_or, unwrap_or}
use Rattle.rtp_media_sections.specs.Lines.{mid_of}
use Rattle.rtp_wire.specs.Direction.{sends}
use Rattle.sdp_formats_data.specs.Lookups.{direction_of, first_of, mid_in}
use Rattle.sdp_formats_data.specs.declared.media.MediaAttribute.{MediaAttribute}
use Rattle.sdp_formats_data.specs.declared.media.MediaAttribute.TheVariants as line
use Rattle.sdp_formats_data.specs.declared.media.MediaLine.{MediaLine}
use Rattle.sdp_formats_data.specs.declared.session.Sdp.{Sdp}
use Rattle.sdp_formats_data.specs.declared.session.Session.{Session}
use Rattle.sdp_formats_data.specs.declared.session.SessionAttribute.{SessionAttribute}
use Rattle.sdp_formats_data.specs.declared.session.SessionAttribute.TheVariants.{Group}
use Rattle.rtp_media_browsers.specs.AnswerLaws.{AnswersEachSection, IsAnswerTo, TextsAreWhole, answered_from}
use Rattle.rtp_media_browsers.specs.AnswerLaws.{answered_in}
use Rattle.rtp_media_browsers.specs.AnswerLaws.{names_answered}
use Rattle.rtp_media_browsers.specs.Following.{is_new, section_named, has_name}
use Rattle.rtp_media_browsers.specs.ForBrowsers.{bundled_as, section_with_transport, session_with_transport, is_in_use}
use Rattle.rtp_media_browsers.specs.ForBrowsers.{lite_line, mixed_line, names_in_use, shown, told_section}
use Rattle.rtp_media_browsers.specs.ForEnds.{bundled, places_of}
use Rattle.rtp_media_browsers.specs.Identities.{identified, is_track_of, named_line, track_line, tracks_sent}
use Rattle.rtp_media_browsers.specs.Listing.{listed_for, with_offered, with_rows}
use Rattle.rtp_media_browsers.specs.Laws.{AreBundlesOf, IsBundleOf, is_end_section}
use Rattle.rtp_media_browsers.specs.Lines.{is_bundle_name}
use Rattle.rtp_media_browsers.specs.Names.{is_among, mids_of}
use Rattle.rtp_media_browsers.specs.Places.{after_place, at_place, if_any, is_taken, place_of}
use Rattle.rtp_media_browsers.specs.Places.{placed_from, places_from, rejected}
use Rattle.rtp_media_browsers.specs.Refusals.{begin_with, browser_refusal, has_planned, is_found, refused_if}
use Rattle.rtp_media_browsers.specs.Fit.{are_ice_chars, may_say}
use Rattle.rtp_media_browsers.specs.declared.error.BrowserError.{BrowserError}
use Rattle.rtp_media_browsers.specs.declared.error.BrowserError.TheVariants as error
use Rattle.rtp_media_browsers.specs.declared.identity.Identity.{Identity}
use Rattle.rtp_media_browsers.specs.declared.identity.Track.{Track}
use Rattle.rtp_media_browsers.specs.declared.state.Place.{Place}
use Rattle.rtp_media_browsers.specs.declared.state.Place.TheVariants.{Free, Kept, Taken}
use Rattle.rtp_media_browsers.specs.declared.state.BrowserState.{BrowserState}
use Rattle.rtp_media_browsers.specs.declared.transport.Transport.{Transport}
use Rattle.rtp_media_browsers.specs.declared.request.SectionRequest.{SectionRequest}
use Rattle.rtp_media_browsers.proofs.WithTransport.{both_of}
use Rattle.rtp_media_browsers.proofs.Named.{both, found_name, is_found_among, not_true, some_inside}
use Rattle.rtp_media_browsers.proofs.Returning.{in_use, mid_same, off}

-- what a browser is told of a section leaves its name
mid_named : (cname : List ℕ) (a : MediaAttribute) → mid_in (named_line cname a) ≡ mid_in a
unfolding mid_in named_line
mid_named cname (line.Ssrc ssrc attr value) = refl
mid_named cname _ = refl

no_mid_of_tracks : (ts : List Track) → first_of mid_in (map track_line ts) ≡ None
unfolding mid_in
no_mid_of_tracks [] = refl
no_mid_of_tracks (t ∷ ts) = no_mid_of_tracks ts

no_mid_sent : (b : Bool) (ts : List Track) (mid : List ℕ) → first_of mid_in (tracks_sent b ts mid) ≡ None
no_mid_sent true ts mid = no_mid_of_tracks (filter (is_track_of mid) ts)
no_mid_sent false ts mid = refl

mid_before : (cname : List ℕ) (as' ls : List MediaAttribute) → first_of mid_in ls ≡ None
    → first_of mid_in (map (named_line cname) as' ++ ls) ≡ first_of mid_in as'
mid_before cname [] ls h = h
mid_before cname (a ∷ as') ls h = λ i. option_or (mid_named cname a i) (mid_before cname as' ls h i)

identified_name : (o : Option Identity) (m : MediaLine) → mid_of (identified o m) ≡ mid_of m
identified_name None m = refl
identified_name (Some i) m =
    ap (λ (o : Option (List ℕ)). unwrap_or o [])
    (mid_before i.cname m.attrs (tracks_sent (sends (direction_of m.attrs)) i.tracks (mid_of m))
    (no_mid_sent (sends (direction_of m.attrs)) i.tracks (mid_of m)))

identified_use : (o : Option Identity) (m : MediaLine) → (identified o m).disabled ≡ m.disabled
identified_use None m = refl
identified_use (Some i) m = refl

offered_name : (o : Option MediaLine) (m : MediaLine) → mid_of (with_offered o m) ≡ mid_of m
unfolding with_rows mid_in
offered_name None m = refl
offered_name (Some offered) m = refl

offered_use : (o : Option MediaLine) (m : MediaLine) → (with_offered o m).disabled ≡ m.disabled
unfolding with_rows
offered_use None m = refl
offered_use (Some offered) m = refl

listed_name : (b : Bool) (olds : List MediaLine) (m : MediaLine) → mid_of (listed_for b olds m) ≡ mid_of m
listed_name true olds m = offered_name (section_named olds (mid_of m)) m
listed_name false olds m = refl

listed_use : (b : Bool) (olds : List MediaLine) (m : MediaLine) → (listed_for b olds m).disabled ≡ m.disabled
listed_use true olds m = offered_use (section_named olds (mid_of m)) m
listed_use false olds m = refl

use_with_transport : (t : Transport) (m : MediaLine) → (section_with_transport t m).disabled ≡ m.disabled
unfolding section_with_transport
use_with_transport t m = refl

module _ (state : BrowserState) (t : Transport) where
  pub told_name : (m : MediaLine) → mid_of (told_section state t m) ≡ mid_of m
  told_name m =
      identified_name state.identity (listed_for state.is_answering state.sections (section_with_transport t m))
      ∙ listed_name state.is_answering state.sections (section_with_transport t m) ∙ mid_same t m

  told_use : (m : MediaLine) → (told_section state t m).disabled ≡ m.disabled
  told_use m = identified_use state.identity (listed_for state.is_answering state.sections (section_with_transport t m))
      ∙ listed_use state.is_answering state.sections (section_with_transport t m) ∙ use_with_transport t m

  pub told_names : (ms : List MediaLine) → mids_of (map (told_section state t) ms) ≡ mids_of ms
  told_names [] = refl
  told_names (m ∷ ms) = λ i. told_name m i ∷ told_names ms i

  pub told_in_use : (ms : List MediaLine) → list_all is_end_section ms ≡ true
      → list_all is_in_use (map (told_section state t) ms) ≡ true
  unfolding is_in_use
  told_in_use [] h = refl
  told_in_use (m ∷ ms) h =
      let here = both_of (is_end_section m) (list_all is_end_section ms) h in
      both (not (told_section state t m).disabled) (list_all is_in_use (map (told_section state t) ms))
      (ap not (told_use m ∙ in_use m here.0)) (told_in_use ms here.1)

  pub none_new : (ms : List MediaLine) → list_all (λ m. not (is_new state.sections m)) ms ≡ true
      → filter (is_new state.sections) (map (told_section state t) ms) ≡ []
  none_new [] h = refl
  none_new (m ∷ ms) h =
      let here = both_of (not (is_new state.sections m)) (list_all (λ x. not (is_new state.sections x)) ms) h in
      let rest = filter (is_new state.sections) (map (told_section state t) ms) in
      ap (λ (b : Bool). cond b (told_section state t m ∷ rest) rest)
      (ap (λ (k : List ℕ). not (is_among (mids_of state.sections) k)) (told_name m)
      ∙ off (is_new state.sections m) here.0)
      ∙ none_new ms here.1

nothing_is : {A B : Type 0} (x : A) → None ≡ Some x → B
nothing_is x h = cc

-- the section that is found is one in use, if all are
use_step : (x : MediaLine) (xs : List MediaLine) (mid : List ℕ) (m : MediaLine) → is_in_use x ≡ true
    → (section_named xs mid ≡ Some m → is_in_use m ≡ true) → (b : Bool)
    → cond b (Some x) (section_named xs mid) ≡ Some m → is_in_use m ≡ true
use_step x xs mid m here rest true h = subst (λ (y : MediaLine). is_in_use y ≡ true) (some_inside x m h) here
use_step x xs mid m here rest false h = rest h

found_use : (ms : List MediaLine) (mid : List ℕ) (m : MediaLine) → list_all is_in_use ms ≡ true
    → section_named ms mid ≡ Some m → is_in_use m ≡ true
found_use [] mid m all h = nothing_is m h
found_use (x ∷ xs) mid m all h =
    let here = both_of (is_in_use x) (list_all is_in_use xs) all in
    use_step x xs mid m here.0 (found_use xs mid m here.1) (has_name mid x) h

rejected_name : (m : MediaLine) → mid_of (rejected m) ≡ mid_of m
unfolding mid_in
rejected_name m = refl

module _ (bundle : List (List ℕ)) (requests : List SectionRequest) (ms : List MediaLine)
    (used : list_all is_in_use ms ≡ true) where
  -- what is at the place of a section, and after it
  at_one : (m : MediaLine) (b : Bool) → is_found (mids_of ms) (cond b (Taken (rejected m)) (Kept (mid_of m))) ≡ true
      → (rest : List MediaLine) (names : List (List ℕ)) (flags : List Bool) → mids_of rest ≡ names
      → map is_in_use rest ≡ flags
      → (mids_of (at_place ms [] (cond b (Taken (rejected m)) (Kept (mid_of m))) ++ rest) ≡ mid_of m ∷ names)
      × (map is_in_use (at_place ms [] (cond b (Taken (rejected m)) (Kept (mid_of m))) ++ rest) ≡ not b ∷ flags)
  unfolding at_place is_found is_in_use
  at_one m true h rest names flags e f = ((λ i. rejected_name m i ∷ e i), (λ i. false ∷ f i))
  at_one m false h rest names flags e f =
      let found = is_found_among ms (mid_of m) h in
      let one = ap if_any found.1 in
      let name = found_name ms (mid_of m) found.0 found.1 in
      let shown_use = found_use ms (mid_of m) found.0 used found.1 in (
        ap (λ (xs : List MediaLine). mids_of (xs ++ rest)) one ∙ (λ i. name i ∷ e i),
        ap (λ (xs : List MediaLine). map is_in_use (xs ++ rest)) one ∙ (λ i. shown_use i ∷ f i),
      )

  none_after : (p : Place) → after_place p [] ≡ []
  unfolding after_place
  none_after (Kept name) = refl
  none_after (Taken r) = refl
  none_after (Free r) = refl

  pub at_all : (n : ℕ) (os : List MediaLine) → list_all (is_found (mids_of ms)) (places_from bundle requests n os)
      ≡ true
      → (mids_of (placed_from ms (places_from bundle requests n os) []) ≡ mids_of os)
      × (map is_in_use (placed_from ms (places_from bundle requests n os) []) ≡ answered_from bundle requests n os)
  at_all n [] h = (refl, refl)
  at_all n (m ∷ os) h =
      let here = both_of (is_found (mids_of ms) (place_of bundle (slice_get requests n) m))
      (list_all (is_found (mids_of ms)) (places_from bundle requests (suc n) os)) h in
      let later = at_all (suc n) os here.1 in
      let ps = places_from bundle requests (suc n) os in
      let same = ap (placed_from ms ps) (none_after (place_of bundle (slice_get requests n) m)) in
      at_one m (is_taken bundle (slice_get requests n) m) here.0
      (placed_from ms ps (after_place (place_of bundle (slice_get requests n) m) [])) (mids_of os)
      (answered_from bundle requests (suc n) os) (ap mids_of same ∙ later.0) (ap (map is_in_use) same ∙ later.1)

-- the names in use are those of the sections that are answered
names_step : (x : MediaLine) (xs : List MediaLine) (b : Bool)
    → mids_of (filter is_in_use xs) ≡ names_answered (map is_in_use xs) (mids_of xs)
    → mids_of (cond b (x ∷ filter is_in_use xs) (filter is_in_use xs))
    ≡ names_answered (b ∷ map is_in_use xs) (mid_of x ∷ mids_of xs)
names_step x xs true e = λ i. mid_of x ∷ e i
names_step x xs false e = e

names_by : (ms : List MediaLine) → names_in_use ms ≡ names_answered (map is_in_use ms) (mids_of ms)
names_by [] = refl
names_by (m ∷ ms) = names_step m ms (is_in_use m) (names_by ms)

-- each bundle is of these names
picked : (b : Bool) (names mids : List (List ℕ)) → b ≡ true → cond b names mids ≡ names
picked true names mids h = refl
picked false names mids h = not_true h

bundle_of : (names : List (List ℕ)) (a : SessionAttribute) → IsBundleOf names (bundled_as names a)
unfolding IsBundleOf bundled_as
bundle_of names (Group typ mids) = λ h. picked (is_bundle_name typ) names mids h
bundle_of names _ = tt

bundles_mapped : (names : List (List ℕ)) (as' : List SessionAttribute)
    → AreBundlesOf names (map (bundled_as names) as')
bundles_mapped names [] = tt
bundles_mapped names (a ∷ as') = (bundle_of names a, bundles_mapped names as')

bundles_both : (names : List (List ℕ)) (as' bs : List SessionAttribute) → AreBundlesOf names as'
    → AreBundlesOf names bs → AreBundlesOf names (as' ++ bs)
bundles_both names [] bs h k = k
bundles_both names (a ∷ as') bs h k = (h.0, bundles_both names as' bs h.1 k)

no_bundle_mixed : (names : List (List ℕ)) (b : Bool) → AreBundlesOf names (mixed_line b)
unfolding IsBundleOf
no_bundle_mixed names true = (tt, tt)
no_bundle_mixed names false = tt

no_bundle_lite : (names : List (List ℕ)) (b : Bool) → AreBundlesOf names (lite_line b)
unfolding IsBundleOf
no_bundle_lite names true = (tt, tt)
no_bundle_lite names false = tt

-- what a text that isn't refused has
second_none : (x y : Option BrowserError) → option_or x y ≡ None → y ≡ None
second_none None y h = h
second_none (Some e) y h = absurd (cc)

not_refused : (b : Bool) (e : BrowserError) → refused_if (not b) e ≡ None → b ≡ true
not_refused true e h = refl
not_refused false e h = absurd (cc)

pub planned : (state : BrowserState) (t : Transport) (sdp : Sdp) → browser_refusal state t sdp ≡ None
    → list_all (is_found (mids_of sdp.media_lines)) state.places ≡ true
planned state t sdp h =
    let last = refused_if (not (has_planned state sdp.media_lines)) error.NotCorresponding in
    let third = refused_if (not (may_say state.is_answering t.setup state.setup state.remote.setup)) error.SetupNotFit
    in
    let second = refused_if (not (are_ice_chars 22 t.creds.pass)) error.PasswordNotFit in
    let first = refused_if (not (are_ice_chars 4 t.creds.ufrag)) error.UfragNotFit in
    let found = not_refused (has_planned state sdp.media_lines) error.NotCorresponding
    (second_none third last (second_none second (option_or third last)
    (second_none first (option_or second (option_or third last)) h))) in
    (both_of (begin_with (mids_of state.sections) sdp.media_lines)
    (list_all (is_found (mids_of sdp.media_lines)) state.places) found).1

pub own_bundles : (names : List (List ℕ)) (mixed lite : Bool) (s : Session)
    → AreBundlesOf names (session_with_transport names mixed lite s).attrs
unfolding session_with_transport
own_bundles names mixed lite s =
    bundles_both names (map (bundled_as names) s.attrs ++ mixed_line mixed) (lite_line lite)
    (bundles_both names (map (bundled_as names) s.attrs) (mixed_line mixed) (bundles_mapped names s.attrs)
    (no_bundle_mixed names mixed)) (no_bundle_lite names lite)

shown_bundles : (state : BrowserState) (t : Transport) (s : Session) (all : List MediaLine)
    → AreBundlesOf (names_in_use all) (shown state t s all).session.attrs
unfolding shown
shown_bundles state t s all = own_bundles (names_in_use all) state.allows_mixed t.is_lite s

answer_of : (requests : List SectionRequest) (offer : Sdp) (state : BrowserState) (t : Transport) (sdp : Sdp)
    (all : List MediaLine)
    → mids_of all ≡ mids_of offer.media_lines → map is_in_use all ≡ answered_in requests offer
    → IsAnswerTo requests offer (shown state t sdp.session all)
unfolding shown
answer_of requests offer state t sdp all names flags = record {
  names = names;
  ports = flags;
  bundles = subst (λ (x : List (List ℕ)). AreBundlesOf x (shown state t sdp.session all).session.attrs)
      (names_by all ∙ (λ i. names_answered (flags i) (names i))) (shown_bundles state t sdp.session all);
}

pub answers_each_section : AnswersEachSection
answers_each_section state t requests offer sdp places passes ends olds =
    let ms = map (told_section state t) sdp.media_lines in
    let found = subst (λ (x : List (List ℕ)). list_all (is_found x) (places_of requests offer) ≡ true)
    (sym (told_names state t sdp.media_lines))
    (subst (λ (x : List Place). list_all (is_found (mids_of sdp.media_lines)) x ≡ true) places
    (planned state t sdp passes)) in
    let each = at_all (bundled offer) requests ms (told_in_use state t sdp.media_lines ends) 0 offer.media_lines found
    in
    let all_is : placed_from ms state.places (filter (is_new state.sections) ms)
    ≡ placed_from ms (places_of requests offer) [] =
    λ i. placed_from ms (places i) (none_new state t sdp.media_lines olds i) in
    answer_of requests offer state t sdp _ (ap mids_of all_is ∙ each.0) (ap (map is_in_use) all_is ∙ each.1)

-- a section is at each place, if the end has those that have one
one_at : (ms news : List MediaLine) (p : Place) → is_found (mids_of ms) p ≡ true → 1 ≤ length (at_place ms news p)
unfolding at_place is_found
one_at ms news (Taken r) h = omega arith
one_at ms [] (Free r) h = omega arith
one_at ms (m ∷ news) (Free r) h = omega arith
one_at ms news (Kept name) h =
    let found = is_found_among ms name h in
    subst (λ (o : Option MediaLine). 1 ≤ length (if_any o)) (sym found.1) (omega arith)

placed_length : (ms news : List MediaLine) (ps : List Place) → list_all (is_found (mids_of ms)) ps ≡ true
    → length ps ≤ length (placed_from ms ps news)
placed_length ms news [] h = omega arith
placed_length ms news (p ∷ ps) h =
    let here = both_of (is_found (mids_of ms) p) (list_all (is_found (mids_of ms)) ps) h in
    let one = one_at ms news p here.0 in
    let rest = placed_length ms (after_place p news) ps here.1 in
    let all = length-append (at_place ms news p) (placed_from ms ps (after_place p news)) in
    omega (arith, one, rest, all)

pub texts_are_whole : TextsAreWhole
unfolding shown
texts_are_whole state t sdp passes =
    let ms = map (told_section state t) sdp.media_lines in
    let found = subst (λ (x : List (List ℕ)). list_all (is_found x) state.places ≡ true)
    (sym (told_names state t sdp.media_lines)) (planned state t sdp passes) in
    record {
      sections = placed_length ms (filter (is_new state.sections) ms) state.places found;
      bundles = shown_bundles state t sdp.session (placed_from ms state.places (filter (is_new state.sections) ms));
    }

-- Sections that are at their places.
use Rattle.std.proofs.Common.{◌≡◌, ◌∙◌, ap, sym, refl, subst, ℕ, suc, zero, true, List, [], ◌∷◌, ◌++◌, Option}
use Rattle.std.proofs.Common.{None, Some, slice_get, drop, filter, length, take, arith}
use Rattle.std.proofs.lemmas.Bool.{cond_both}
use Rattle.std.proofs.lemmas.List.{drop_all}
use Rattle.std.specs.List.{list_all}
use Rattle.std.specs.Option.{option_or}
use Rattle.rtp_media_sections.specs.Lines.{mid_of}
use Rattle.sdp_formats_data.specs.declared.media.MediaLine.{MediaLine}
use Rattle.rtp_media_browsers.specs.Following.{is_new, section_named}
use Rattle.rtp_media_browsers.specs.ForEnds.{bundled}
use Rattle.rtp_media_browsers.specs.Laws.{AreRejections, EachInItsPlace, TakenAreRejected, free_in}
use Rattle.rtp_media_browsers.specs.Names.{mids_of}
use Rattle.rtp_media_browsers.specs.Places.{after_place, at_place, if_any, is_taken, placed_from}
use Rattle.rtp_media_browsers.specs.Places.{places_from, rejected}
use Rattle.rtp_media_browsers.specs.Refusals.{is_found}
use Rattle.rtp_media_browsers.specs.declared.state.Place.{Place}
use Rattle.rtp_media_browsers.specs.declared.state.Place.TheVariants.{Free, Kept, Taken}
use Rattle.rtp_media_browsers.specs.declared.request.SectionRequest.{SectionRequest}
use Rattle.rtp_media_browsers.proofs.WithTransport.{both_of}
use Rattle.rtp_media_browsers.proofs.Named.{is_found_among}

some_of : (o : Option MediaLine) (m : MediaLine) → if_any o ≡ m ∷ [] → Some m ≡ o
some_of None m h = cc
some_of (Some x) m h = cc

nothing_at : {A : Type 0} (p : Place) → None ≡ Some p → A
nothing_at p h = cc

same_place : (p q : Place) → Some p ≡ Some q → p ≡ q
same_place p q h = cc

-- what is at a place, by its kind, given the new sections and how many of them have a place before it
abbrev StandsAt : List MediaLine → List MediaLine → ℕ → Place → Option MediaLine → Type 0
StandsAt ms news count (Taken r) o = o ≡ Some r
StandsAt ms news count (Kept name) o = o ≡ section_named ms name
StandsAt ms news count (Free r) o = o ≡ option_or (slice_get news count) (Some r)

module _ (ms : List MediaLine) where
  -- one section is at a place whose name is found
  one_at : (news : List MediaLine) (p : Place) → is_found (mids_of ms) p ≡ true
      → (m : MediaLine) × (at_place ms news p ≡ m ∷ [])
  unfolding at_place is_found
  one_at news (Taken r) h = (r, refl)
  one_at news (Kept name) h =
      let found = is_found_among ms name h in
      (found.0, ap if_any found.1)
  one_at [] (Free r) h = (r, refl)
  one_at (m ∷ news) (Free r) h = (m, refl)

  stands_one : (news : List MediaLine) (p : Place) (m : MediaLine) → at_place ms news p ≡ m ∷ []
      → StandsAt ms news zero p (Some m)
  unfolding at_place
  stands_one news (Taken r) m h = some_of (Some r) m h
  stands_one news (Kept name) m h = some_of (section_named ms name) m h
  stands_one [] (Free r) m h = some_of (Some r) m h
  stands_one (x ∷ news) (Free r) m h = some_of (Some x) m h

  one_more : (news : List MediaLine) (p : Place) (ps : List Place) (m : MediaLine) → at_place ms news p ≡ m ∷ []
      → placed_from ms (p ∷ ps) news ≡ m ∷ placed_from ms ps (after_place p news)
  one_more news p ps m is = ap (λ (xs : List MediaLine). xs ++ placed_from ms ps (after_place p news)) is

  -- what is after a place, counted from it on
  one_before : (q : Place) (news : List MediaLine) (qs : List Place) (p : Place) (o : Option MediaLine)
      → StandsAt ms (after_place q news) (free_in qs) p o → StandsAt ms news (free_in (q ∷ qs)) p o
  unfolding after_place
  one_before (Kept name) news qs p o h = h
  one_before (Taken r) news qs p o h = h
  one_before (Free r) [] qs (Kept name) o h = h
  one_before (Free r) [] qs (Taken s) o h = h
  one_before (Free r) [] qs (Free s) o h = h
  one_before (Free r) (m ∷ news) qs (Kept name) o h = h
  one_before (Free r) (m ∷ news) qs (Taken s) o h = h
  one_before (Free r) (m ∷ news) qs (Free s) o h = h

  stands : (ps : List Place) (news : List MediaLine) → list_all (is_found (mids_of ms)) ps ≡ true → (n : ℕ) (p : Place)
      → slice_get ps n ≡ Some p → StandsAt ms news (free_in (take n ps)) p (slice_get (placed_from ms ps news) n)
  stands [] news h n p at = nothing_at p at
  stands (q ∷ ps) news h zero p at =
      let here = both_of (is_found (mids_of ms) q) (list_all (is_found (mids_of ms)) ps) h in
      let one = one_at news q here.0 in
      subst (λ (x : Place). StandsAt ms news zero x (slice_get (placed_from ms (q ∷ ps) news) zero)) (same_place q p at)
      (subst (StandsAt ms news zero q)
      (sym (ap (λ (xs : List MediaLine). slice_get xs zero) (one_more news q ps one.0 one.1)))
      (stands_one news q one.0 one.1))
  stands (q ∷ ps) news h (suc n) p at =
      let here = both_of (is_found (mids_of ms) q) (list_all (is_found (mids_of ms)) ps) h in
      let one = one_at news q here.0 in
      subst (StandsAt ms news (free_in (q ∷ take n ps)) p)
      (sym (ap (λ (xs : List MediaLine). slice_get xs (suc n)) (one_more news q ps one.0 one.1)))
      (one_before q news (take n ps) p (slice_get (placed_from ms ps (after_place q news)) n)
      (stands ps (after_place q news) here.1 n p at))

  dropped : (q : Place) (news : List MediaLine) (ps : List Place)
      → drop (free_in ps) (after_place q news) ≡ drop (free_in (q ∷ ps)) news
  unfolding after_place
  dropped (Kept name) news ps = refl
  dropped (Taken r) news ps = refl
  dropped (Free r) [] ps = drop_all (free_in ps) [] (omega arith) ∙ sym (drop_all (suc (free_in ps)) [] (omega arith))
  dropped (Free r) (m ∷ news) ps = refl

  added : (ps : List Place) (news : List MediaLine) → list_all (is_found (mids_of ms)) ps ≡ true
      → drop (length ps) (placed_from ms ps news) ≡ drop (free_in ps) news
  added [] news h = refl
  added (q ∷ ps) news h =
      let here = both_of (is_found (mids_of ms) q) (list_all (is_found (mids_of ms)) ps) h in
      let one = one_at news q here.0 in
      ap (λ (xs : List MediaLine). drop (suc (length ps)) xs) (one_more news q ps one.0 one.1)
      ∙ added ps (after_place q news) here.1 ∙ dropped q news ps

pub each_in_its_place : EachInItsPlace
each_in_its_place ps olds ms found = record {
  taken = λ n r at. stands ms ps (filter (is_new olds) ms) found n (Taken r) at;
  kept = λ n name at. stands ms ps (filter (is_new olds) ms) found n (Kept name) at;
  free = λ n r at. stands ms ps (filter (is_new olds) ms) found n (Free r) at;
  added = added ms ps (filter (is_new olds) ms) found;
}

module _ (bundle : List (List ℕ)) (requests : List SectionRequest) where
  all_rejected : (n : ℕ) (ms : List MediaLine) → AreRejections (places_from bundle requests n ms)
  all_rejected n [] = tt
  all_rejected n (m ∷ ms) =
      let rest = all_rejected (suc n) ms in
      cond_both (is_taken bundle (slice_get requests n) m) (Taken (rejected m)) (Kept (mid_of m))
      (λ p. AreRejections (p ∷ places_from bundle requests (suc n) ms)) (λ _. ((m, refl), rest)) (λ _. rest)

pub taken_are_rejected : TakenAreRejected
taken_are_rejected requests sdp = all_rejected (bundled sdp) requests 0 sdp.media_lines

-- Each look asks for less of sections that were accepted.
use Rattle.std.proofs.Common.{◌≡◌, ◌∙◌, ◌<◌, ◌≤◌, ◌+◌, ◌&&◌, ◌||◌, ℕ, suc, ap, refl, subst, sym, Bool, true, false, not}
use Rattle.std.proofs.Common.{cond, arith}
use Rattle.std.proofs.Common.{List, [], ◌∷◌, None, Some, drop, inl, inr}
use Rattle.std.proofs.Math.Seq.{drop-cons}
use Rattle.std.proofs.lemmas.List.{drop_all}
use Rattle.std.proofs.lemmas.Option.{slice_get_cases}
use Rattle.std.specs.List.{list_any}
use Rattle.rtp_media_sections.specs.Lines.{mid_of}
use Rattle.sdp_formats_data.specs.declared.media.MediaLine.{MediaLine}
use Rattle.sdp_formats_rows.specs.Rows.{Row}
use Rattle.sdp_formats_values.specs.MediaTypes.{is_media}
use Rattle.rtp_media_browsers.specs.Calls.{RefusesOffer}
use Rattle.rtp_media_browsers.specs.ForEnds.{bundled}
use Rattle.rtp_media_browsers.specs.InCommon.{AreInCommon, HasRows, Lacks, RefusesInCommon, Rejects, RejectsInTurn}
use Rattle.rtp_media_browsers.specs.InCommon.{has_named, left_of, less_of, without_named}
use Rattle.rtp_media_browsers.specs.Places.{is_accepted, is_bundled_only, is_outside, place_of, places_from, rejected}
use Rattle.rtp_media_browsers.specs.Refusals.{offer_refusal}
use Rattle.rtp_media_browsers.specs.declared.error.BrowserError.{BrowserError}
use Rattle.rtp_media_browsers.specs.declared.error.BrowserError.TheVariants.{Memory}
use Rattle.rtp_media_browsers.specs.declared.state.Place.{Place}
use Rattle.rtp_media_browsers.specs.declared.state.Place.TheVariants.{Free, Kept, Taken}
use Rattle.rtp_media_browsers.specs.declared.state.BrowserState.{BrowserState}
use Rattle.rtp_media_browsers.specs.declared.request.SectionRequest.{SectionRequest}
use Rattle.rtp_media_browsers.specs.declared.request.SectionRequest.TheVariants.{Accept, Receive, Reject}
use Rattle.rtp_wire.specs.Direction.{receives}
use Rattle.rtp_media_browsers.proofs.Named.{not_true}
use Rattle.rtp_media_browsers.proofs.Refused.{want_of_memory}

-- how much they ask for
abbrev weight : SectionRequest → ℕ
weight (Accept direction ssrcs repairs) = 2
weight Receive = 1
weight Reject = 0

abbrev pub asked : List SectionRequest → ℕ
asked [] = 0
asked (w ∷ ws) = weight w + asked ws

less_by : (b : Bool) → weight (cond b Receive Reject) ≤ 1
less_by true = omega arith
less_by false = omega arith

-- less is asked for of what is accepted
less_asked : (w : SectionRequest) → is_accepted (Some w) ≡ true → weight (less_of w) < weight w
less_asked (Accept direction ssrcs repairs) h =
    let few = less_by (receives direction) in
    omega (arith, few)
less_asked Receive h = omega arith
less_asked Reject h = not_true h

no_more_asked : (w : SectionRequest) → weight (less_of w) ≤ weight w
no_more_asked (Accept direction ssrcs repairs) =
    let few = less_by (receives direction) in
    omega (arith, few)
no_more_asked Receive = omega arith
no_more_asked Reject = omega arith

one_not_more : (b : Bool) (w : SectionRequest) (m n : ℕ) → m ≤ n → weight (left_of b w) + m ≤ weight w + n
one_not_more true w m n h =
    let one = no_more_asked w in
    omega (arith, one, h)
one_not_more false w m n h = omega (arith, h)

not_more : (names : List (List ℕ)) (ps : List Place) (ws : List SectionRequest)
    → asked (without_named names ps ws) ≤ asked ws
not_more names ps [] = omega arith
not_more names [] (w ∷ ws) = one_not_more false w _ (asked ws) (not_more names [] ws)
not_more names (p ∷ ps) (w ∷ ws) = one_not_more (has_named names p) w _ (asked ws) (not_more names ps ws)

is_kept : Place → Bool
is_kept (Kept name) = true
is_kept (Taken r) = false
is_kept (Free r) = false

-- the request of each section that is kept accepts it
abbrev AreKept : List Place → List SectionRequest → Type 0
AreKept [] ws = Unit {0}
AreKept (p ∷ ps) [] = (is_kept p ≡ false) × AreKept ps []
AreKept (p ∷ ps) (w ∷ ws) = (is_kept p ≡ true → is_accepted (Some w) ≡ true) × AreKept ps ws

named_kept : (names : List (List ℕ)) (p : Place) → has_named names p ≡ true → is_kept p ≡ true
unfolding has_named is_kept
named_kept names (Kept name) h = refl
named_kept names (Taken r) h = not_true h
named_kept names (Free r) h = not_true h

second_true : (a b : Bool) → a ≡ false → (a || b) ≡ true → b ≡ true
second_true true b is h = not_true (sym is)
second_true false b is h = h

off_named : (names : List (List ℕ)) (p : Place) → is_kept p ≡ false → has_named names p ≡ false
unfolding has_named is_kept
off_named names (Kept name) h = not_true (sym h)
off_named names (Taken r) h = refl
off_named names (Free r) h = refl

one_fewer : (b : Bool) (w : SectionRequest) (m n : ℕ) → (b ≡ true → is_accepted (Some w) ≡ true) → m ≤ n
    → (b ≡ false → m < n) → weight (left_of b w) + m < weight w + n
one_fewer true w m n on low less =
    let one = less_asked w (on refl) in
    omega (arith, one, low)
one_fewer false w m n on low less =
    let rest = less refl in
    omega (arith, rest)

fewer : (names : List (List ℕ)) (ps : List Place) (ws : List SectionRequest) → AreKept ps ws
    → list_any (has_named names) ps ≡ true → asked (without_named names ps ws) < asked ws
fewer names [] ws fit h = not_true h
fewer names (p ∷ ps) [] fit h =
    fewer names ps [] fit.1 (second_true (has_named names p) (list_any (has_named names) ps)
    (off_named names p fit.0) h)
fewer names (p ∷ ps) (w ∷ ws) fit h =
    one_fewer (has_named names p) w (asked (without_named names ps ws)) (asked ws)
    (λ is. fit.0 (named_kept names p is)) (not_more names ps ws)
    (λ is. fewer names ps ws fit.1 (second_true (has_named names p) (list_any (has_named names) ps) is h))

-- what is kept is accepted
kept_by : (a b c accepts : Bool) (r : MediaLine) (name : List ℕ)
    → is_kept (cond (a || (b || (c || not accepts))) (Taken r) (Kept name)) ≡ true → accepts ≡ true
unfolding is_kept
kept_by a b c true r name h = refl
kept_by true b c false r name h = not_true h
kept_by false true c false r name h = not_true h
kept_by false false true false r name h = not_true h
kept_by false false false false r name h = not_true h

no_request : (a b c : Bool) (r : MediaLine) (name : List ℕ)
    → is_kept (cond (a || (b || (c || true))) (Taken r) (Kept name)) ≡ false
unfolding is_kept
no_request true b c r name = refl
no_request false true c r name = refl
no_request false false true r name = refl
no_request false false false r name = refl

module _ (bundle : List (List ℕ)) (requests : List SectionRequest) where
  are_kept : (n : ℕ) (ms : List MediaLine) → AreKept (places_from bundle requests n ms) (drop n requests)
  are_kept n [] = tt
  are_kept n (m ∷ ms) = elim (slice_get_cases requests n).1 [
    | inl (w, within, is, got) ↦
        subst (λ o. AreKept (place_of bundle o m ∷ places_from bundle requests (suc n) ms) (drop n requests)) (sym is)
        (subst (AreKept (place_of bundle (Some w) m ∷ places_from bundle requests (suc n) ms))
        (sym (drop-cons requests n w within ∙ ap (λ x. x ∷ drop (suc n) requests) got)) (
          kept_by (not (is_media m.typ)) (m.disabled && not (is_bundled_only bundle m)) (is_outside bundle m)
              (is_accepted (Some w))
              (rejected m) (mid_of m),
          are_kept (suc n) ms,
        ))
    | inr (past, none) ↦
        subst (λ o. AreKept (place_of bundle o m ∷ places_from bundle requests (suc n) ms) (drop n requests)) (sym none)
        (subst (AreKept (place_of bundle None m ∷ places_from bundle requests (suc n) ms)) (sym (drop_all n requests
        past)) (
          no_request (not (is_media m.typ)) (m.disabled && not (is_bundled_only bundle m)) (is_outside bundle m)
              (rejected m) (mid_of m),
          subst (AreKept (places_from bundle requests (suc n) ms)) (drop_all (suc n) requests (omega arith))
              (are_kept (suc n) ms),
        ))
  ]

pub fewer_asked : (offer : List ℕ) (state : BrowserState) (rows : List Row) (before after : List SectionRequest)
    → Rejects offer state rows before after → asked after < asked before
fewer_asked offer state rows before after r =
    let sdp = r.lacks.passes.sdp in
    let kept = subst (λ ps. AreKept ps before) (sym r.lacks.passes.planned.places)
    (are_kept (bundled sdp) before 0 sdp.media_lines) in
    subst (λ ws. asked ws < asked before) (sym r.rejected)
    (fewer r.names r.planned.places before kept r.some)

-- what is left of requests after some rejections
abbrev pub ComesOf : List ℕ → BrowserState → List Row → List SectionRequest → List SectionRequest → Type 0
ComesOf offer state rows before after = (times : ℕ) × RejectsInTurn offer state rows times before after

module _ (offer : List ℕ) (state : BrowserState) (rows : List Row) where
  pub nothing_rejected : (before : List SectionRequest) → ComesOf offer state rows before before
  nothing_rejected before = (0, refl)

  pub one_more_turn : (before between after : List SectionRequest) → ComesOf offer state rows before between
      → Rejects offer state rows between after → ComesOf offer state rows before after
  one_more_turn before between after h r = (suc h.0, (between, h.1, r))

  pub in_common : (before between after : List SectionRequest) → ComesOf offer state rows before between
      → HasRows offer state rows after → after ≡ between → AreInCommon offer state rows before after
  in_common before between after h has same = record {
    times = h.0;
    rejects = subst (RejectsInTurn offer state rows h.0 before) (sym same) h.1;
    left = has;
  }

  pub not_in_common : (before between : List SectionRequest) (e : BrowserError)
      → ComesOf offer state rows before between
      → RefusesOffer offer state between e → RefusesInCommon offer state rows before e
  not_in_common before between e h refused =
      record { times = h.0; left = between; rejects = h.1; refused = refused }

  pub want_in_common : (before : List SectionRequest) (e : BrowserError) → e ≡ Memory
      → RefusesInCommon offer state rows before e
  want_in_common before e is = not_in_common before before e (nothing_rejected before)
      (want_of_memory offer (offer_refusal offer state before) e is)

  -- a look that finds none, and one that finds some
  pub has_rows : (requests shown : List SectionRequest) (old planned : BrowserState) (names listed : List (List ℕ))
      (places : List Place)
      (b : Bool) → Lacks offer rows shown old planned listed → shown ≡ requests → old ≡ state → names ≡ listed
      → places ≡ planned.places → b ≡ list_any (has_named names) places → b ≡ false
      → HasRows offer state rows requests
  has_rows requests shown old planned names listed places b lacks same_requests same_state same_names same_places is off
      =
      record {
        planned = planned;
        names = listed;
        lacks = subst (λ p. Lacks offer rows requests p planned listed) same_state
            (subst (λ ws. Lacks offer rows ws old planned listed) same_requests lacks);
        none = (λ i. list_any (has_named (sym same_names i)) (sym same_places i)) ∙ sym is ∙ off;
      }

  pub rejects : (before shown after : List SectionRequest) (old planned : BrowserState) (names listed : List (List ℕ))
      (places : List Place) (b : Bool) → Lacks offer rows shown old planned listed → shown ≡ before → old ≡ state
      → names ≡ listed → places ≡ planned.places → b ≡ list_any (has_named names) places → b ≡ true
      → after ≡ without_named names places before → Rejects offer state rows before after
  rejects before shown after old planned names listed places b lacks same_requests same_state same_names same_places is
      on made = record {
        planned = planned;
        names = listed;
        lacks = subst (λ p. Lacks offer rows before p planned listed) same_state
            (subst (λ ws. Lacks offer rows ws old planned listed) same_requests lacks);
        some = (λ i. list_any (has_named (sym same_names i)) (sym same_places i)) ∙ sym is ∙ on;
        rejected = made ∙ (λ i. without_named (same_names i) (same_places i) before);
      }

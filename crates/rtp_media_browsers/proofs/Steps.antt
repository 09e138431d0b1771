-- One place more.
use Rattle.std.proofs.Common.{cond, Bool}
use Rattle.std.proofs.Common.{◌≡◌, ◌∙◌, ◌+◌, ◌<◌, ℕ, suc, List, [], ◌∷◌, ◌++◌, ap, sym, refl, drop, get_or}
use Rattle.std.proofs.Common.{length, Option}
use Rattle.std.proofs.Common.{None, Some, slice_get, arith, inl, inr, add-one, append_assoc, Bor, ltb}
use Rattle.std.proofs.Math.Seq.{drop-cons}
use Rattle.std.proofs.lemmas.List.{drop_all}
use Rattle.std.proofs.lemmas.Bool.{ltb-false, ltb-true}
use Rattle.std.proofs.lemmas.Option.{slice_get_cases, slice_get_past, slice_get_read}
use Rattle.std.specs.Option.{IfSome, is_some, option_copied}
use Rattle.sdp_formats_data.specs.declared.media.MediaLine.{MediaLine}
use Rattle.rtp_media_browsers.specs.Places.{answered_or_new, answered_places, left, left_at}
use Rattle.rtp_media_browsers.specs.Places.{place_of, places_from}
use Rattle.rtp_media_browsers.specs.Asking.{is_for_kind, is_for_mid, kind_from, named_from}
use Rattle.rtp_media_browsers.specs.Places.{is_place_of}
use Rattle.rtp_media_browsers.specs.Wanted.{number_from}
use Rattle.rtp_media_browsers.specs.declared.asking.NamedRequest.{NamedRequest}
use Rattle.rtp_media_browsers.specs.declared.state.Place.{Place}
use Rattle.rtp_media_browsers.specs.declared.state.Place.TheVariants.{Free, Kept, Taken}
use Rattle.rtp_media_browsers.specs.declared.request.SectionRequest.{SectionRequest}

one_left : (p : Place) (ps : List Place) (m : MediaLine) (ms : List MediaLine)
    → left (p ∷ ps) (m ∷ ms) ≡ left_at (Some p) m ++ left ps ms
one_left (Kept name) ps m ms = refl
one_left (Taken r) ps m ms = refl
one_left (Free r) ps m ms = refl

past_left : (ms : List MediaLine) (m : MediaLine) → left [] (m ∷ ms) ≡ left_at None m ++ left [] ms
past_left ms m = refl

-- what is left of a section and of those after it
pub left_step : (ps : List Place) (n : ℕ) (m : MediaLine) (ms : List MediaLine)
    → left (drop n ps) (m ∷ ms) ≡ left_at (slice_get ps n) m ++ left (drop (suc n) ps) ms
left_step ps n m ms = elim (slice_get_cases ps n).1 [
  | inl (p, within, is, got) ↦
      ap (λ (qs : List Place). left qs (m ∷ ms))
      (drop-cons ps n p within ∙ ap (λ (q : Place). q ∷ drop (suc n) ps) got)
      ∙ one_left p (drop (suc n) ps) m ms
      ∙ ap (λ (o : Option Place). left_at o m ++ left (drop (suc n) ps) ms) (sym is)
  | inr (past, none) ↦
      ap (λ (qs : List Place). left qs (m ∷ ms)) (drop_all n ps past)
      ∙ past_left ms m
      ∙ (λ i. left_at (sym none i) m ++ left (sym (drop_all (suc n) ps (omega arith)) i) ms)
]

pub nothing_left : (ps : List Place) → left ps [] ≡ []
nothing_left [] = refl
nothing_left (p ∷ ps) = refl

-- the places of a section and of those after it
pub places_step : (bundle : List (List ℕ)) (requests : List SectionRequest) (n : ℕ) (ms : List MediaLine)
    (m : MediaLine)
    → n < length ms → m ≡ get_or ms n m
    → places_from bundle requests n (drop n ms)
    ≡ place_of bundle (slice_get requests n) m ∷ places_from bundle requests (n + 1) (drop (n + 1) ms)
places_step bundle requests n ms m within is =
    ap (places_from bundle requests n)
    (drop-cons ms n m within ∙ ap (λ (x : MediaLine). x ∷ drop (suc n) ms) (sym is))
    ∙ (λ i. place_of bundle (slice_get requests n) m ∷ places_from bundle requests (sym (add-one n) i)
    (drop (sym (add-one n) i) ms))

one_answered : (p : Place) (ps : List Place) (m : MediaLine) (ms : List MediaLine)
    → answered_places (p ∷ ps) (m ∷ ms) ≡ answered_or_new (Some p) m ∷ answered_places ps ms
one_answered p ps m ms = refl

past_answered : (ms : List MediaLine) (m : MediaLine)
    → answered_places [] (m ∷ ms) ≡ answered_or_new None m ∷ answered_places [] ms
past_answered ms m = refl

-- the places of a section of an answer and of those after it
pub answered_step : (ps : List Place) (n : ℕ) (m : MediaLine) (ms : List MediaLine)
    → answered_places (drop n ps) (m ∷ ms) ≡ answered_or_new (slice_get ps n) m ∷ answered_places (drop (suc n) ps) ms
answered_step ps n m ms = elim (slice_get_cases ps n).1 [
  | inl (p, within, is, got) ↦
      ap (λ (qs : List Place). answered_places qs (m ∷ ms))
      (drop-cons ps n p within ∙ ap (λ (q : Place). q ∷ drop (suc n) ps) got)
      ∙ one_answered p (drop (suc n) ps) m ms
      ∙ ap (λ (o : Option Place). answered_or_new o m ∷ answered_places (drop (suc n) ps) ms) (sym is)
  | inr (past, none) ↦
      ap (λ (qs : List Place). answered_places qs (m ∷ ms)) (drop_all n ps past)
      ∙ past_answered ms m
      ∙ (λ i. answered_or_new (sym none i) m ∷ answered_places (sym (drop_all (suc n) ps (omega arith)) i) ms)
]

pub nothing_answered : (ps : List Place) → answered_places ps [] ≡ []
nothing_answered [] = refl
nothing_answered (p ∷ ps) = refl

-- the first request that is for a section, from one on
pub named_step : (mid : List ℕ) (n : ℕ) (ws : List NamedRequest) (w : NamedRequest) → n < length ws → w ≡ get_or ws n w
    → named_from mid n (drop n ws)
    ≡ cond (is_for_mid mid w) (Some n) (named_from mid (n + 1) (drop (n + 1) ws))
named_step mid n ws w within is =
    ap (named_from mid n) (drop-cons ws n w within ∙ ap (λ (x : NamedRequest). x ∷ drop (suc n) ws) (sym is))
    ∙ (λ i. cond (is_for_mid mid w) (Some n) (named_from mid (sym (add-one n) i) (drop (sym (add-one n) i) ws)))

pub kind_step : (is_audio : Bool) (n : ℕ) (ws : List NamedRequest) (w : NamedRequest) → n < length ws → w
    ≡ get_or ws n w
    → kind_from is_audio n (drop n ws)
    ≡ cond (is_for_kind is_audio w) (Some n) (kind_from is_audio (n + 1) (drop (n + 1) ws))
kind_step is_audio n ws w within is =
    ap (kind_from is_audio n) (drop-cons ws n w within ∙ ap (λ (x : NamedRequest). x ∷ drop (suc n) ws) (sym is))
    ∙ (λ i. cond (is_for_kind is_audio w) (Some n)
    (kind_from is_audio (sym (add-one n) i) (drop (sym (add-one n) i) ws)))

-- the place of a section's name, from one on
pub number_step : (mid : List ℕ) (n : ℕ) (ps : List Place) (p : Place) → n < length ps → p ≡ get_or ps n p
    → number_from mid n (drop n ps) ≡ cond (is_place_of mid p) (Some n) (number_from mid (n + 1) (drop (n + 1) ps))
number_step mid n ps p within is =
    ap (number_from mid n) (drop-cons ps n p within ∙ ap (λ (x : Place). x ∷ drop (suc n) ps) (sym is))
    ∙ (λ i. cond (is_place_of mid p) (Some n) (number_from mid (sym (add-one n) i) (drop (sym (add-one n) i) ps)))

-- one step of a loop that puts values after others
pub one_more : {A : Type 0} (old new xs ys tail whole all : List A) → new ≡ old ++ xs → xs ≡ ys → whole ≡ ys ++ tail
    → old ++ whole ≡ all → new ++ tail ≡ all
one_more old new xs ys tail whole all pushed same behind kept =
    ap (λ (l : List _). l ++ tail) (pushed ∙ ap (λ (l : List _). old ++ l) same)
    ∙ append_assoc old ys tail
    ∙ ap (λ (l : List _). old ++ l) (sym behind)
    ∙ kept

-- what is looked up is what is there
pub looked_up : {A : Type 0} (xs : List A) (n : ℕ) (o : Option (Bor A)) → is_some o ≡ ltb n (length xs)
    → IfSome o (λ x. x.now ≡ get_or xs n x.now) → option_copied o ≡ slice_get xs n
looked_up xs n None there is = sym (slice_get_past xs n (ltb-false n (length xs) (sym there)))
looked_up xs n (Some x) there is =
    sym (slice_get_read xs (length xs) n x.now refl (ltb-true n (length xs) (sym there)) is)

-- Sections in their places.
use Rattle.std.proofs.Common.{◌≡◌, ◌∙◌, ◌<◌, ◌≤◌, ◌+◌, ◌&&◌, ◌||◌, ap, refl, sym, ℕ, suc, Bool, true, false, not}
use Rattle.std.proofs.Common.{List, [], ◌∷◌, length, Option, slice_get, arith}
use Rattle.rtp_media_sections.specs.Lines.{mid_of}
use Rattle.sdp_formats_values.specs.MediaTypes.{is_media}
use Rattle.sdp_formats_data.specs.declared.media.MediaLine.{MediaLine}
use Rattle.rtp_media_browsers.specs.Places.{is_accepted, is_bundled_only, is_outside, is_taken, left, place_of}
use Rattle.rtp_media_browsers.specs.Places.{places_from}
use Rattle.rtp_media_browsers.specs.declared.state.Place.{Place}
use Rattle.rtp_media_browsers.specs.declared.state.Place.TheVariants.{Kept}
use Rattle.rtp_media_browsers.specs.declared.request.SectionRequest.{SectionRequest}

-- audio or video that is in use
abbrev pub IsUsed : MediaLine → Type 0
IsUsed m = (is_media m.typ ≡ true) × (m.disabled ≡ false)

abbrev pub AreUsed : List MediaLine → Type 0
AreUsed [] = Unit {0}
AreUsed (m ∷ ms) = IsUsed m × AreUsed ms

-- sections that aren't outside of a bundle
abbrev pub AreInside : List (List ℕ) → List MediaLine → Type 0
AreInside bundle [] = Unit {0}
AreInside bundle (m ∷ ms) = (is_outside bundle m ≡ false) × AreInside bundle ms

-- the requests from one on accept this many sections
abbrev pub Accepts : List SectionRequest → ℕ → ℕ → Type 0
Accepts requests n count = (k : ℕ) → n ≤ k → k < n + count → is_accepted (slice_get requests k) ≡ true

off_on : false ≡ true → ⊥
off_on h = cc

module _ (bundle : List (List ℕ)) (requests : List SectionRequest) where
  taken_by : (a b outside accepts x : Bool) → a ≡ true → b ≡ false → outside ≡ false → accepts ≡ true
      → (not a || ((b && x) || (outside || not accepts))) ≡ false
  taken_by true false false true x a b o w = refl
  taken_by false b outside accepts x a e o w = absurd (off_on a)
  taken_by true true outside accepts x a e o w = absurd (off_on (sym e))
  taken_by true false true accepts x a e o w = absurd (off_on (sym o))
  taken_by true false false false x a e o w = absurd (off_on w)

  not_taken : (w : Option SectionRequest) (m : MediaLine) → IsUsed m → is_outside bundle m ≡ false
      → is_accepted w ≡ true → is_taken bundle w m ≡ false
  not_taken w m used inside accepted =
      taken_by (is_media m.typ) m.disabled (is_outside bundle m) (is_accepted w) (not (is_bundled_only bundle m)) used.0
      used.1 inside accepted

  kept : (w : Option SectionRequest) (m : MediaLine) → IsUsed m → is_outside bundle m ≡ false → is_accepted w ≡ true
      → place_of bundle w m ≡ Kept (mid_of m)
  kept w m used inside accepted = rw (not_taken w m used inside accepted) refl

  here : (n count : ℕ) → Accepts requests n (suc count) → is_accepted (slice_get requests n) ≡ true
  here n count accepts = accepts n (omega arith) (omega arith)

  later : (n count : ℕ) → Accepts requests n (suc count) → Accepts requests (suc n) count
  later n count accepts k low high = accepts k (omega arith) (omega arith)

  pub all_left : (n : ℕ) (ms : List MediaLine) → AreUsed ms → AreInside bundle ms → Accepts requests n (length ms)
      → left (places_from bundle requests n ms) ms ≡ ms
  all_left n [] used inside accepts = refl
  all_left n (m ∷ ms) used inside accepts =
      ap (λ (p : Place). left (p ∷ places_from bundle requests (suc n) ms) (m ∷ ms))
      (kept (slice_get requests n) m used.0 inside.0 (here n (length ms) accepts))
      ∙ ap (λ (xs : List MediaLine). m ∷ xs) (all_left (suc n) ms used.1 inside.1 (later n (length ms) accepts))

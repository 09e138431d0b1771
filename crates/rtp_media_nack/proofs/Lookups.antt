-- Two tests that agree on all keys find the same.
use Rattle.std.proofs.Common.{◌≡◌, ℕ, ◌≤◌, ◌==◌, ◌-◌, slice_get, List, [], ◌∷◌, Some, None, Bool, false, refl, sym}
use Rattle.std.proofs.Common.{◌∙◌, arith, length, suc}
use Rattle.std.specs.BTreeMap.{is_at}
use Rattle.std.specs.List.{All}
use Rattle.std.specs.Map.{keys_of, lookup}
use Rattle.std.specs.Ordering.{is_lt, nat_cmp}
use Rattle.std.proofs.lemmas.Grind.{common_steps}
use Rattle.std.proofs.lemmas.Map.Keys.{ge_from_not_lt}
use Rattle.rtp_media_nack.specs.Histories.{Sent, is_meant, newest}

pub lookup-same : (t u : ℕ → Bool) (es : List Sent) → All (λ q. t q ≡ u q) (keys_of es) → lookup t es ≡ lookup u es
lookup-same t u [] h = refl
lookup-same t u (e ∷ es) h =
    let a : t e.0 ≡ u e.0 = h 0 e.0 (omega arith) in
    let b : lookup t es ≡ lookup u es = lookup-same t u es (λ k d l. h (suc k) d (omega arith)) in
    rw (a, b) refl

pub is_at-same : (n q : ℕ) → is_at (nat_cmp n) q ≡ (n == q)
is_at-same n q = grind (arith, common_steps)

-- Up to the newest key a query of one number finds what a test finds that only this number passes.
pub lookup-one : (test : ℕ → Bool) (newest n : ℕ) (es : List Sent)
    → All (λ q. is_lt (nat_cmp newest q) ≡ false) (keys_of es)
    → ((k : ℕ) → k ≤ newest → test k ≡ (n == k)) → lookup test es ≡ lookup (is_at (nat_cmp n)) es
lookup-one test newest n es below same = lookup-same test (is_at (nat_cmp n)) es
    (λ k d l. same _ (ge_from_not_lt newest _ (below k d l)) ∙ sym (is_at-same n _))

lookup-never : (es : List Sent) → lookup (λ q. false) es ≡ None
lookup-never [] = refl
lookup-never (e ∷ es) = lookup-never es

pub lookup-none : (test : ℕ → Bool) (newest : ℕ) (es : List Sent)
    → All (λ q. is_lt (nat_cmp newest q) ≡ false) (keys_of es)
    → ((k : ℕ) → k ≤ newest → test k ≡ false) → lookup test es ≡ None
lookup-none test newest es below same = lookup-same test (λ q. false) es
    (λ k d l. same _ (ge_from_not_lt newest _ (below k d l))) ∙ lookup-never es

-- What a NACK asks for if one number is meant, or none is.
pub asked-at : (ps : List Sent) (greatest low n : ℕ) (v : List ℕ) → slice_get ps (length ps - 1) ≡ Some (greatest, v)
    → All (λ q. is_lt (nat_cmp greatest q) ≡ false) (keys_of ps)
    → ((k : ℕ) → k ≤ greatest → is_meant greatest low k ≡ (n == k))
    → lookup (is_meant (newest ps) low) ps ≡ lookup (is_at (nat_cmp n)) ps
asked-at ps greatest low n v l below same = rw l (lookup-one (is_meant greatest low) greatest n ps below same)

pub asked-none : (ps : List Sent) (greatest low : ℕ) (v : List ℕ) → slice_get ps (length ps - 1) ≡ Some (greatest, v)
    → All (λ q. is_lt (nat_cmp greatest q) ≡ false) (keys_of ps)
    → ((k : ℕ) → k ≤ greatest → is_meant greatest low k ≡ false) → lookup (is_meant (newest ps) low) ps ≡ None
asked-none ps greatest low v l below same = rw l (lookup-none (is_meant greatest low) greatest ps below same)

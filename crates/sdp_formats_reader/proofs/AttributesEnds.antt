-- How a text ends.
use Rattle.std.proofs.Common.{◌≡◌, ◌≢◌, ◌++◌, ◌==◌, ℕ, true, false, List, [], ◌∷◌, refl, ap, arith}
use Rattle.std.proofs.lemmas.Bool.Decides.{nat_tests}
use Rattle.sdp_formats_reader.specs.Pairs.{ends_open}

pub not_equal : (b c : ℕ) → b ≢ c → (b == c) ≡ false
not_equal b c h = grind (arith, nat_tests)

pub ends-at : (front : List ℕ) → ends_open (front ++ 59 ∷ []) ≡ true
ends-at [] = refl
ends-at (b ∷ []) = refl
ends-at (b ∷ c ∷ front) = ends-at (c ∷ front)

pub ends-none : (text : List ℕ) → ((front : List ℕ) → text ≢ front ++ 59 ∷ []) → ends_open text ≡ false
ends-none [] h = refl
ends-none (b ∷ []) h = not_equal b 59 (λ e. h [] (ap (λ x. x ∷ []) e))
ends-none (b ∷ c ∷ text) h = ends-none (c ∷ text) (λ front e. h (b ∷ front) (ap (λ t. b ∷ t) e))

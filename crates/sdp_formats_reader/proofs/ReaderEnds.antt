-- A blank at the end of a text.
use Rattle.std.proofs.Common.{◌≡◌, ◌≢◌, ◌++◌, ℕ, List, [], ◌∷◌, refl, ap}
use Rattle.sdp_formats_grammar.specs.Cuts.{other_byte}
use Rattle.sdp_formats_reader.specs.Groups.{without_last}

pub without-at : (front : List ℕ) → without_last (front ++ 32 ∷ []) ≡ front
without-at [] = refl
without-at (b ∷ []) = refl
without-at (b ∷ c ∷ front) = ap (λ t. b ∷ t) (without-at (c ∷ front))

pub without-none : (text : List ℕ) → ((front : List ℕ) → text ≢ front ++ 32 ∷ []) → without_last text ≡ text
without-none [] h = refl
without-none (b ∷ []) h = other_byte b 32 [] (b ∷ []) (λ e. h [] (ap (λ x. x ∷ []) e))
without-none (b ∷ c ∷ text) h = ap (λ t. b ∷ t) (without-none (c ∷ text) (λ front e. h (b ∷ front) (ap (λ t. b ∷ t) e)))

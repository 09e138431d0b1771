-- The stars at the end of a word.
use Rattle.std.proofs.Common.{◌≡◌, ◌≢◌, ℕ, ◌<◌, ◌==◌, Bool, true, false, cond, List, [], ◌∷◌, ◌++◌, length}
use Rattle.std.proofs.Common.{refl, sym, ◌∙◌, ap, arith}
use Rattle.std.proofs.lemmas.Bool.{eqb-true}
use Rattle.std.proofs.lemmas.List.{length-append}
use Rattle.words_and_replies.specs.Bytes.{before_left, without_stars}

starred : (front : List ℕ) → without_stars (front ++ 42 ∷ []) ≡ without_stars front
starred [] = refl
starred (b ∷ front) = ap (before_left b) (starred front)

-- a word that ends in a star has what is before it
pub without_stars-starred : (word front : List ℕ) → word ≡ front ++ 42 ∷ [] → without_stars front ≡ without_stars word
without_stars-starred word front h = sym (starred front) ∙ ap without_stars (sym h)

-- which is shorter
pub length-starred : (word front : List ℕ) → word ≡ front ++ 42 ∷ [] → length front < length word
length-starred word front h = let longer = ap length h ∙ length-append front (42 ∷ []) in omega arith

last_is_plain : (b : ℕ) (test : Bool) → test ≡ (b == 42) → (test ≡ true → ⊥) → cond test [] (b ∷ []) ≡ b ∷ []
last_is_plain b true e lacks = absurd (lacks refl)
last_is_plain b false e lacks = refl

-- and any other word is the whole
pub without_stars-plain : (word : List ℕ) → ((front : List ℕ) → word ≢ front ++ 42 ∷ []) → without_stars word ≡ word
without_stars-plain [] lacks = refl
without_stars-plain (b ∷ []) lacks =
    last_is_plain b (b == 42) refl (λ e. lacks [] (ap (λ x. x ∷ []) (eqb-true b 42 e)))
without_stars-plain (b ∷ c ∷ more) lacks =
    ap (before_left b) (without_stars-plain (c ∷ more) (λ front e. lacks (b ∷ front) (ap (λ t. b ∷ t) e)))

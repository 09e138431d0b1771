-- Reading one word after the other.
use Rattle.std.proofs.Common.{◌≡◌, ℕ, Bool, true, false, cond, List, [], ◌∷◌, Option, None, Some, refl, ◌∙◌, ap}
use Rattle.std.specs.Option.{option_map}
use Rattle.std.specs.Str.{bytes_eq}
use Rattle.std.proofs.lemmas.Slice.Eq.{bytes_eq-Decides}
use Rattle.rtp_media_program.specs.Words.{first, ended, ◌>>=◌}

-- what a `Some` after a step shows
pub bind_some : {A B : Type 0} (o : Option A) (f : A → Option B) (y : B) → (o >>= f) ≡ Some y → (x : A)
    × (o ≡ Some x) × (f x ≡ Some y)
bind_some (Some x) f y h = (x, refl, h)
bind_some None f y h = cc h

-- no word was left
pub ended_some : {A : Type 0} (words : List (List ℕ)) (x y : A) → ended words x ≡ Some y → (words ≡ []) × (x ≡ y)
ended_some [] x y h = (refl, cc h)
ended_some (word ∷ words) x y h = cc h

-- what follows from the next word, what it says, and the words after it
pub read_on : {A B : Type 0} (P : Type 0) (read : List ℕ → Option A) (words : List (List ℕ))
    (f : A × List (List ℕ) → Option B) (y : B)
    → (first read words >>= f) ≡ Some y
    → ((word : List ℕ) (rest : List (List ℕ)) (said : A) → words ≡ word ∷ rest → read word ≡ Some said
    → f (said, rest) ≡ Some y → P) → P
read_on P read [] f y h then' = cc h
read_on {A} P read (word ∷ rest) f y h then' = by_word (read word) refl h where
  by_word : (said : Option A) → read word ≡ said → (option_map (λ x. (x, rest)) said >>= f) ≡ Some y → P
  by_word None e k = cc k
  by_word (Some x) e k = then' word rest x refl e k

pub glue : {verb other : List ℕ} {words others : List (List ℕ)} → verb ≡ other → words ≡ others → verb ∷ words
    ≡ other ∷ others
glue {other = other} {words = words} v w = ap (λ first. first ∷ words) v ∙ ap (λ rest. other ∷ rest) w

pub under : (word : List ℕ) {words others : List (List ℕ)} → words ≡ others → word ∷ words ≡ word ∷ others
under word w = ap (λ rest. word ∷ rest) w

-- the branch that a test takes
pub dispatch : {X : Type 0} (b : Bool) (x y z : X) (P : Type 0) → (b ≡ true → x ≡ z → P) → (y ≡ z → P) → cond b x y
    ≡ z → P
dispatch true x y z P here later h = here refl h
dispatch false x y z P here later h = later h

pub same : (verb word : List ℕ) → bytes_eq verb word ≡ true → verb ≡ word
same verb word h = (bytes_eq-Decides verb word).0 h

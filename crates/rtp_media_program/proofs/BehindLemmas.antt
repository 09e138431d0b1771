-- What follows these letters in a word that starts with them.
use Rattle.std.proofs.Common.{◌≡◌, ℕ, ◌+◌, ◌==◌, true, List, [], ◌∷◌, ◌++◌, length, drop, Option, None, Some, Bor}
use Rattle.std.proofs.Common.{refl, sym, ◌∙◌, ap}
use Rattle.std.proofs.lemmas.Bool.{cond_both}
use Rattle.std.proofs.lemmas.Bool.Decides.{Decides-eqb}
use Rattle.std.specs.Option.{MatchOption, option_copied}
use Rattle.std.specs.Str.Pattern.{LacksTextAt, FindsTextPrefix}
use Rattle.rtp_media_program.specs.Words.{behind}

pub eq_same : (c : ℕ) → (c == c) ≡ true
eq_same c = (Decides-eqb c c).1 refl

pub behind-append : (words rest : List ℕ) → behind words (words ++ rest) ≡ Some rest
behind-append [] rest = refl
behind-append (c ∷ words) rest = rw (eq_same c) (behind-append words rest)

pub behind-sound : (words line rest : List ℕ) → behind words line ≡ Some rest → line ≡ words ++ rest
behind-sound [] line rest = λ h. cc
behind-sound (c ∷ words) [] rest = λ h. cc
behind-sound (c ∷ words) (b ∷ line) rest =
    cond_both (b == c) (behind words line) None (λ o. o ≡ Some rest → b ∷ line ≡ c ∷ (words ++ rest))
    (λ same h. let byte = (Decides-eqb b c).0 same in let tail = behind-sound words line rest h in cc)
    (λ _ h. cc)

none_if : {A : Type 0} (o : Option A) → ((x : A) → o ≡ Some x → ⊥) → o ≡ None
none_if None never = refl
none_if (Some x) never = absurd (never x refl)

pub behind-strip : (words line : List ℕ) (r : Option (Bor (List ℕ)))
    → MatchOption r (LacksTextAt words line 0)
    (λ x. (n : ℕ) × FindsTextPrefix words line (Some n) × (x.now ≡ drop n line) × (length x.now + n ≡ length line))
    → option_copied r ≡ behind words line
behind-strip words line None lacks = sym
    (none_if (behind words line) (λ rest same. lacks rest (behind-sound words line rest same)))
behind-strip words line (Some x) found =
    sym (ap (behind words) found.1.1 ∙ behind-append words (drop found.0 line) ∙ ap Some (sym found.2))

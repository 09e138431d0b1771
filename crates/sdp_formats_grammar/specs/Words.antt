-- What follows these words in a text that begins with them.
use Rattle.std.proofs.Common.{◌≡◌, ℕ, ◌==◌, true, List, [], ◌∷◌, ◌++◌, None, Some}
use Rattle.std.proofs.Common.{refl}
use Rattle.std.proofs.lemmas.Bool.{cond_both}
use Rattle.std.proofs.lemmas.Bool.Decides.{Decides-eqb}
use Rattle.sdp_formats_grammar.specs.Split.{behind}

eq_same : (c : ℕ) → (c == c) ≡ true
eq_same c = (Decides-eqb c c).1 refl

pub behind-append : (words rest : List ℕ) → behind words (words ++ rest) ≡ Some rest
behind-append [] rest = refl
behind-append (c ∷ words) rest = rw (eq_same c) (behind-append words rest)

pub behind-sound : (words text rest : List ℕ) → behind words text ≡ Some rest → text ≡ words ++ rest
behind-sound [] text rest = λ h. cc
behind-sound (c ∷ words) [] rest = λ h. cc
behind-sound (c ∷ words) (b ∷ text) rest =
    cond_both (b == c) (behind words text) None (λ o. o ≡ Some rest → b ∷ text ≡ c ∷ (words ++ rest))
    (λ same h. let byte = (Decides-eqb b c).0 same in let tail = behind-sound words text rest h in cc)
    (λ _ h. cc)

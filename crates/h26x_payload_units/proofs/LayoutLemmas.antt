-- A text's zeros at its end, and its layout at each byte.
use Rattle.std.proofs.Common.{◌≡◌, ◌≢◌, ℕ, Bool, true, false, eqb, List, [], ◌∷◌, ◌++◌, refl, ap, ◌∙◌, arith}
use Rattle.std.proofs.Common.{eqb-true}
use Rattle.std.specs.Prelude.{◌&&◌, if◌then◌else◌}
use Rattle.std.proofs.lemmas.Bool.{false≢true}
use Rattle.std.proofs.lemmas.Bool.Decides.{nat_tests}
use Rattle.h26x_payload_units.specs.Units.{is_code, with_front, without_zeros}

all_three : (x y z : Bool) → (x ≡ true → y ≡ true → z ≡ true → ⊥) → (x && (y && z)) ≡ false
all_three true true true never = absurd (never refl refl refl)
all_three true true false never = refl
all_three true false z never = refl
all_three false y z never = refl

-- other bytes are none
pub no_code : (a b c : ℕ) → (a ≡ 0 → b ≡ 0 → c ≡ 1 → ⊥) → is_code a b c ≡ false
no_code a b c never = all_three (eqb a 0) (eqb b 0) (eqb c 1)
    (λ e f g. never (eqb-true a 0 e) (eqb-true b 0 f) (eqb-true c 1 g))

both : (x y : Bool) → (x && y) ≡ true → (x ≡ true) × (y ≡ true)
both true true e = (refl, refl)
both true false e = absurd (false≢true e)
both false y e = absurd (false≢true e)

-- three bytes that are a start code's end
pub code_bytes : (a b c : ℕ) → is_code a b c ≡ true → (a ≡ 0) × ((b ≡ 0) × (c ≡ 1))
code_bytes a b c e =
    let p : (eqb a 0 ≡ true) × ((eqb b 0 && eqb c 1) ≡ true) = both _ _ e in
    let q : (eqb b 0 ≡ true) × (eqb c 1 ≡ true) = both _ _ p.1 in
    (eqb-true a 0 p.0, (eqb-true b 0 q.0, eqb-true c 1 q.1))

pub not_zero : (a : ℕ) → a ≢ 0 → eqb a 0 ≡ false
not_zero a never = grind (arith, nat_tests)

pub without_zeros-zero : (s : List ℕ) → without_zeros (s ++ 0 ∷ []) ≡ without_zeros s
without_zeros-zero [] = refl
without_zeros-zero (a ∷ s) = ap (with_front a) (without_zeros-zero s)

front_kept : (a b : ℕ) (s : List ℕ) → with_front a (s ++ b ∷ []) ≡ a ∷ (s ++ b ∷ [])
front_kept a b [] = refl
front_kept a b (c ∷ s) = refl

pub without_zeros-other : (s : List ℕ) (b : ℕ) → b ≢ 0 → without_zeros (s ++ b ∷ []) ≡ s ++ b ∷ []
without_zeros-other [] b never = ap (λ t. if t then [] else b ∷ []) (not_zero b never)
without_zeros-other (a ∷ s) b never = ap (with_front a) (without_zeros-other s b never) ∙ front_kept a b s

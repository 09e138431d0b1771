-- Steps one after the other.
use Rattle.std.proofs.Common.{◌≤◌, ℕ, List, [], ◌∷◌, ◌++◌, length, arith, Option, Some, None, refl, sym}
use Rattle.std.proofs.Common.{◌∙◌, ap, subst}
use Rattle.sdp_formats_grammar.specs.Step.{Step, Begins, Many, Perhaps, IsFunctional, IsShortening}

-- One more value at the end.
pub begins-more : {A : Type 0} (S : Step A) (t : List ℕ) (as' : List A) (m : List ℕ) (a : A) (r : List ℕ)
    → Begins S t as' m → S m a r → Begins S t (as' ++ a ∷ []) r
begins-more S t [] m a r h s = (r, subst (λ x. S x a r) h s, refl)
begins-more S t (b ∷ as') m a r h s = (h.0, h.1, begins-more S h.0 as' m a r h.2 s)

pub many-functional : {A : Type 0} (S : Step A) → IsFunctional S → IsFunctional (Many S)
many-functional S f t [] [] r s h k = (refl, h.0 ∙ sym k.0)
many-functional S f t [] (b ∷ bs) r s h k = absurd (h.1 b k.0.0 (subst (λ x. S x b k.0.0) (sym h.0) k.0.1))
many-functional S f t (a ∷ as') [] r s h k = absurd (k.1 a h.0.0 (subst (λ x. S x a h.0.0) (sym k.0) h.0.1))
many-functional S f t (a ∷ as') (b ∷ bs) r s h k =
    let same = f t a b h.0.0 k.0.0 h.0.1 k.0.1 in
    let later = many-functional S f h.0.0 as' bs r s (h.0.2, h.1)
    (subst (λ x. Begins S x bs s) (sym same.1) k.0.2, k.1) in
    ((λ i. same.0 i ∷ later.0 i), later.1)

pub perhaps-functional : {A : Type 0} (S : Step A) → IsFunctional S → IsFunctional (Perhaps S)
perhaps-functional S f t None None r s h k = (refl, h.0 ∙ sym k.0)
perhaps-functional S f t None (Some b) r s h k = absurd (h.1 b s k)
perhaps-functional S f t (Some a) None r s h k = absurd (k.1 a r h)
perhaps-functional S f t (Some a) (Some b) r s h k = let same = f t a b r s h k in (ap Some same.0, same.1)

pub many-shorter : {A : Type 0} (S : Step A) → IsShortening S → (t : List ℕ) (as' : List A) (r : List ℕ)
    → Begins S t as' r → length r ≤ length t
many-shorter S f t [] r h = omega (arith, ap length h)
many-shorter S f t (a ∷ as') r h = omega (arith, f t a h.0 h.1, many-shorter S f h.0 as' r h.2)

pub perhaps-shorter : {A : Type 0} (S : Step A) → IsShortening S → (t : List ℕ) (a : Option A) (r : List ℕ)
    → Perhaps S t a r → length r ≤ length t
perhaps-shorter S f t None r h = omega (arith, ap length h.0)
perhaps-shorter S f t (Some a) r h = omega (arith, f t a r h)

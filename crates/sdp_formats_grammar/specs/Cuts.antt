-- Cutting a text in two.
use Rattle.std.proofs.Common.{◌≡◌, ◌≢◌, ◌⊎◌, ℕ, suc, ◌<◌, ◌==◌, true, false, cond, List, [], ◌∷◌, ◌++◌}
use Rattle.std.proofs.Common.{length, get_or, Option, None, Some, refl, sym, ◌∙◌, ap, subst, arith, inl, inr, ⊎_elim}
use Rattle.std.specs.Option.{option_map}
use Rattle.std.proofs.lemmas.Bool.{cases_Bool}
use Rattle.std.proofs.lemmas.Bool.Decides.{nat_tests, Decides-eqb}
use Rattle.sdp_formats_grammar.specs.Steps.{none_some}
use Rattle.sdp_formats_grammar.specs.Split.{Lacks, onto, split_first, parts, onto_first}

pub same_byte : {A : Type 0} (b c : ℕ) (x y : A) → b ≡ c → cond (b == c) x y ≡ x
same_byte b c x y h = grind (arith, nat_tests)

pub other_byte : {A : Type 0} (b c : ℕ) (x y : A) → b ≢ c → cond (b == c) x y ≡ y
other_byte b c x y h = grind (arith, nat_tests)

pub split_first-at : (c : ℕ) (front back : List ℕ) → Lacks c front → split_first c (front ++ c ∷ back)
    ≡ Some (front, back)
split_first-at c [] back h = same_byte c c _ _ refl
split_first-at c (b ∷ front) back h = other_byte b c _ _ h.0
    ∙ ap (option_map (onto b)) (split_first-at c front back h.1)

pub split_first-nowhere : (c : ℕ) (text : List ℕ) → Lacks c text → split_first c text ≡ None
split_first-nowhere c [] h = refl
split_first-nowhere c (b ∷ text) h = other_byte b c _ _ h.0 ∙ ap (option_map (onto b)) (split_first-nowhere c text h.1)

-- A text cut at the first occurrence of a byte; or the byte doesn't occur.
pub data IsCut (c : ℕ) (text : List ℕ) : Type 0 where
  somewhere : (front back : List ℕ) → text ≡ front ++ c ∷ back → Lacks c front → IsCut c text
  nowhere : Lacks c text → IsCut c text

pub same_or_not : (b c : ℕ) → (b ≡ c) ⊎ (b ≢ c)
same_or_not b c = ⊎_elim (λ e. inl ((Decides-eqb b c).0 e))
    (λ e. inr (λ s. let t : true ≡ false = sym ((Decides-eqb b c).1 s) ∙ e in absurd (cc))) (cases_Bool (b == c))

later : (b c : ℕ) (text : List ℕ) → b ≢ c → IsCut c text → IsCut c (b ∷ text)
later b c text h (somewhere front back whole lacks) = somewhere (b ∷ front) back (ap (λ t. b ∷ t) whole) (h, lacks)
later b c text h (nowhere lacks) = nowhere (h, lacks)

pub cut_of : (c : ℕ) (text : List ℕ) → IsCut c text
cut_of c [] = nowhere tt
cut_of c (b ∷ text) = ⊎_elim (λ (e : b ≡ c). somewhere [] text (ap (λ x. x ∷ text) e) tt)
    (λ h. later b c text h (cut_of c text)) (same_or_not b c)

by_cut : (c : ℕ) (text front back : List ℕ) → IsCut c text → split_first c text ≡ Some (front, back)
    → (text ≡ front ++ c ∷ back) × Lacks c front
by_cut c text front back (somewhere x y whole lacks) h =
    let same : Some (x, y) ≡ Some (front, back) = sym (split_first-at c x y lacks) ∙ ap (split_first c) (sym whole)
    ∙ h in
    let f : x ≡ front = ap (λ (o : Option (List ℕ × List ℕ)). elim o [ Some p ↦ p.0 | None ↦ x ]) same in
    let k : y ≡ back = ap (λ (o : Option (List ℕ × List ℕ)). elim o [ Some p ↦ p.1 | None ↦ y ]) same in
    (whole ∙ (λ i. f i ++ c ∷ k i), subst (Lacks c) f lacks)
by_cut c text front back (nowhere lacks) h =
    absurd (none_some (front, back) (sym (split_first-nowhere c text lacks) ∙ h))

pub split_first-cuts : (c : ℕ) (text front back : List ℕ) → split_first c text ≡ Some (front, back)
    → (text ≡ front ++ c ∷ back) × Lacks c front
split_first-cuts c text front back h = by_cut c text front back (cut_of c text) h

pub Lacks-from_index : (c : ℕ) (text : List ℕ) → ((i : ℕ) → i < length text → get_or text i 0 ≢ c) → Lacks c text
Lacks-from_index c [] h = tt
Lacks-from_index c (b ∷ text) h = (h 0 (omega arith), Lacks-from_index c text (λ i l. h (suc i) (omega arith)))

pub parts-at : (c : ℕ) (front back : List ℕ) → Lacks c front → parts c (front ++ c ∷ back) ≡ front ∷ parts c back
parts-at c [] back h = same_byte c c _ _ refl
parts-at c (b ∷ front) back h = other_byte b c _ _ h.0 ∙ ap (onto_first b) (parts-at c front back h.1)

pub parts-whole : (c : ℕ) (text : List ℕ) → Lacks c text → parts c text ≡ text ∷ []
parts-whole c [] h = refl
parts-whole c (b ∷ text) h = other_byte b c _ _ h.0 ∙ ap (onto_first b) (parts-whole c text h.1)

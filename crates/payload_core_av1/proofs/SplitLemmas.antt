-- How a packet parts the texts that are left.
use Rattle.std.proofs.Common.{◌≡◌, ℕ, ◌+◌, ◌-◌, ◌<◌, ◌≤◌, Bool, true, false, ltb, leb, eqb, List, [], ◌∷◌, ◌++◌}
use Rattle.std.proofs.Common.{length, take, drop, None, Some, if◌then◌else◌, refl, sym, ap, subst, ◌∙◌, append_assoc}
use Rattle.std.proofs.Common.{arith, inl, inr}
use Rattle.std.proofs.lemmas.Bool.{cases_lt}
use Rattle.std.proofs.lemmas.Bool.Decides.{nat_tests}
use Rattle.std.proofs.lemmas.List.{length-append, length-take-le, take-append-drop}
use Rattle.payload_core_base.specs.Law.{joined}
use Rattle.payload_core_av1.specs.Av1Packing.{back, front, is_cut}
use Rattle.payload_core_av1.specs.Av1Reading.{complete, opened, opened_by}
use Rattle.payload_core_av1.specs.Av1Packets.{AreTexts}
use Rattle.payload_core_av1.proofs.PrefixLemmas.{back-part, back-whole, cut-part, cut-whole, front-part, front-whole}
use Rattle.payload_core_av1.proofs.PrefixLemmas.{front-zero, total-cons}
use Rattle.payload_core_av1.proofs.ReaderLemmas.{complete-behind, opened-behind}

-- texts of which the first goes on with a fragment
abbrev pub glue : List ℕ → List (List ℕ) → List (List ℕ)
glue p [] = []
glue p (t ∷ ts) = (p ++ t) ∷ ts

pub glue-nil : (ts : List (List ℕ)) → glue [] ts ≡ ts
glue-nil [] = refl
glue-nil (t ∷ ts) = refl

-- the texts are whole ones, and those that are left after the part that is open
pub record IsSplit (p : List ℕ) (ts : List (List ℕ)) (y : Bool) (fs bs : List (List ℕ)) : Type 0 where
  pub whole : List (List ℕ)
  pub part : List ℕ
  pub left : glue p ts ≡ whole ++ glue part bs
  pub completes : complete y (glue p fs) ≡ whole
  pub opens : opened y None (glue p fs) ≡ (if y then Some part else None)
  pub plain : y ≡ false → part ≡ []
  pub more : y ≡ true → 0 < length bs

split_as : (p : List ℕ) (ts : List (List ℕ)) (y z : Bool) (fs gs bs cs : List (List ℕ)) → y ≡ z → fs ≡ gs → bs ≡ cs
    → IsSplit p ts z gs cs → IsSplit p ts y fs bs
split_as p ts y z fs gs bs cs yz fg bc is =
    let Y : Bool → Type 0 = λ y. IsSplit p ts y fs bs in
    let F : List (List ℕ) → Type 0 = λ fs. IsSplit p ts z fs bs in
    let B : List (List ℕ) → Type 0 = λ bs. IsSplit p ts z gs bs in
    subst Y (sym yz) (subst F (sym fg) (subst B (sym bc) is))

opened_some : (t : List ℕ) → 0 < length t → opened_by None t ≡ Some t
opened_some [] some = absurd (omega arith)
opened_some (b ∷ bs) some = refl

back_zero : (ts : List (List ℕ)) → AreTexts ts → back 0 ts ≡ ts
back_zero [] are = refl
back_zero (t ∷ ts) are = back-part 0 t ts are.0

cut_zero : (ts : List (List ℕ)) → AreTexts ts → is_cut 0 ts ≡ false
cut_zero [] are = refl
cut_zero (t ∷ ts) are = cut-part 0 t ts are.0

pub front-some : (n : ℕ) (ts : List (List ℕ)) → 0 < n → 0 < length ts → 0 < length (front n ts)
front-some n [] some more = absurd (omega arith)
front-some n (t ∷ ts) some more = by_first (eqb n 0) (leb n (length t)) (grind (arith, nat_tests))
    (front (n - length t) ts)
  where
    by_first : (a b : Bool) → a ≡ false → (others : List (List ℕ))
        → 0 < length (if a then [] else (if b then take n t ∷ [] else t ∷ others))
    by_first true b is others = absurd (cc)
    by_first false true is others = omega arith
    by_first false false is others = omega arith

pub split : (p : List ℕ) (k : ℕ) (ts : List (List ℕ)) → AreTexts ts → 0 < k → k ≤ length (joined ts)
    → IsSplit p ts (is_cut k ts) (front k ts) (back k ts)
split p k [] are some le = absurd (omega arith)
split p k (t ∷ ts) are some le = elim (cases_lt k (length t)) [
  | inl inside ↦
      let there : ltb 0 k ≡ true = grind (arith, nat_tests) in
      let opens : opened_by None (p ++ take k t) ≡ Some (p ++ take k t) =
      opened_some (p ++ take k t) (omega (arith, length-append p (take k t), length-take-le k t (omega arith))) in
      split_as p (t ∷ ts) (is_cut k (t ∷ ts)) true (front k (t ∷ ts)) (take k t ∷ []) (back k (t ∷ ts))
      (drop k t ∷ ts) (cut-part k t ts inside ∙ there) (front-part k t ts some (omega arith))
      (back-part k t ts inside)
      (record {
        whole = [];
        part = p ++ take k t;
        left = ap (λ x. (p ++ x) ∷ ts) (sym (take-append-drop k t))
            ∙ ap (λ x. x ∷ ts) (sym (append_assoc p (take k t) (drop k t)));
        completes = refl;
        opens = opens;
        plain = λ e. absurd (cc);
        more = λ e. omega arith;
      })
  | inr behind ↦
      let m : ℕ = k - length t in
      let is : k ≡ length t + m = omega arith in
      let F : front k (t ∷ ts) ≡ t ∷ front m ts = ap (λ n. front n (t ∷ ts)) is ∙ front-whole m t ts are.0 in
      let B : back k (t ∷ ts) ≡ back m ts = ap (λ n. back n (t ∷ ts)) is ∙ back-whole m t ts in
      let C : is_cut k (t ∷ ts) ≡ is_cut m ts = ap (λ n. is_cut n (t ∷ ts)) is ∙ cut-whole m t ts in
      elim (cases_lt 0 m) [
        | inl others ↦
            let room : m ≤ length (joined ts) = omega (arith, total-cons t ts) in
            let s = split [] m ts are.2 others room in
            let some_texts : 0 < length ts = some_text ts (omega arith) in
            let some_front : 0 < length (front m ts) = front-some m ts others some_texts in
            split_as p (t ∷ ts) (is_cut k (t ∷ ts)) (is_cut m ts) (front k (t ∷ ts)) (t ∷ front m ts)
            (back k (t ∷ ts)) (back m ts) C F B
            (record {
              whole = (p ++ t) ∷ s.whole;
              part = s.part;
              left = ap (λ xs. (p ++ t) ∷ xs) (sym (glue-nil ts) ∙ s.left);
              completes = complete-behind (is_cut m ts) (p ++ t) (front m ts) some_front
                  ∙ ap (λ xs. (p ++ t) ∷ xs) (ap (complete (is_cut m ts)) (sym (glue-nil (front m ts))) ∙ s.completes);
              opens = opened-behind (is_cut m ts) None (p ++ t) (front m ts) some_front
                  ∙ ap (opened (is_cut m ts) None) (sym (glue-nil (front m ts))) ∙ s.opens;
              plain = s.plain;
              more = s.more;
            })
        | inr none ↦
            let zero_is : m ≡ 0 = omega arith in
            split_as p (t ∷ ts) (is_cut k (t ∷ ts)) false (front k (t ∷ ts)) (t ∷ []) (back k (t ∷ ts)) ts
            (C ∙ ap (λ n. is_cut n ts) zero_is ∙ cut_zero ts are.2)
            (F ∙ ap (λ n. t ∷ front n ts) zero_is ∙ ap (λ xs. t ∷ xs) (front-zero ts))
            (B ∙ ap (λ n. back n ts) zero_is ∙ back_zero ts are.2)
            (record {
              whole = (p ++ t) ∷ [];
              part = [];
              left = ap (λ xs. (p ++ t) ∷ xs) (sym (glue-nil ts));
              completes = refl;
              opens = refl;
              plain = λ e. refl;
              more = λ e. absurd (cc);
            })
      ]
]
  where
    some_text : (ts : List (List ℕ)) → 0 < length (joined ts) → 0 < length ts
    some_text [] some = absurd (omega arith)
    some_text (t ∷ ts) some = omega arith

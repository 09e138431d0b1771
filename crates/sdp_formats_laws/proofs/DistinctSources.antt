-- The sources of a section, each once.
use Rattle.std.proofs.Common.{◌≡◌, ◌⊎◌, inl, inr, ◌↔◌, ℕ, Bool, true, false, not, ◌==◌, List, [], ◌∷◌, ◌++◌, cond}
use Rattle.std.proofs.Common.{filter, filter_map, refl, sym, ◌∙◌, ap, subst}
use Rattle.std.proofs.lemmas.Bool.{eq-eqb, false≢true, ne_eqb}
use Rattle.sdp_formats_data.specs.Distinct.{distinct}
use Rattle.sdp_formats_data.specs.Sources.{repairing_in, source_in}
use Rattle.sdp_formats_laws.proofs.Decided.{numbers}
use Rattle.sdp_formats_laws.proofs.EachOnce.{one_list}
use Rattle.sdp_formats_laws.proofs.Filtered.{filtered, let_through}
use Rattle.sdp_formats_laws.specs.EachOnce.{AreDistinct, IsEachOnce, IsFirstBefore}
use Rattle.sdp_formats_rounds.specs.Members.{IsIn}
use Rattle.sdp_formats_laws.specs.Sources.{SourcesAreEachOnce}

-- one number's first place is before another's: not that of the other is first, but that of the one, or it is so after
before_split : (x y n : ℕ) (ns : List ℕ)
    → IsFirstBefore x y (n ∷ ns) ↔ ((n ≡ y → ⊥) × ((n ≡ x) ⊎ IsFirstBefore x y ns))
before_split x y n ns = ((λ h. forth h.0 h.1 h.2 h.3 h.4), λ h. back h.0 h.1)
  where
    forth : (front behind : List ℕ) → n ∷ ns ≡ front ++ behind → IsIn x front → (IsIn y front → ⊥)
        → (n ≡ y → ⊥) × ((n ≡ x) ⊎ IsFirstBefore x y ns)
    forth [] behind e i k = absurd i
    forth (f ∷ fs) behind e i k =
        let head : n ≡ f = cc in
        let tail : ns ≡ fs ++ behind = cc in (
          (λ s. k (inl (sym head ∙ s))),
          elim i [
            | inl s ↦ inl (head ∙ s)
            | inr j ↦ inr (fs, behind, tail, j, λ m. k (inr m))
          ],
        )

    back : (n ≡ y → ⊥) → (n ≡ x) ⊎ IsFirstBefore x y ns → IsFirstBefore x y (n ∷ ns)
    back apart (inl s) = (n ∷ [], ns, refl, inl s, λ (g : (n ≡ y) ⊎ ⊥). elim g [ inl t ↦ apart t | inr b ↦ b ])
    back apart (inr b) = (
      n ∷ b.0,
      b.1,
      ap (λ l. n ∷ l) b.2,
      inr b.3,
      λ (g : (n ≡ y) ⊎ IsIn y b.0). elim g [ inl t ↦ apart t | inr m ↦ b.4 m ],
    )

abbrev is_other : ℕ → ℕ → Bool
is_other n m = not (m == n)

is_another : (n m : ℕ) → (n ≡ m → ⊥) → is_other n m ≡ true
is_another n m h = ap not (ne_eqb m n (λ e. h (sym e)))

not_itself : (n : ℕ) → is_other n n ≡ true → ⊥
not_itself n e = false≢true (sym (ap not (eq-eqb n n refl)) ∙ e)

abbrev without : ℕ → List ℕ → List ℕ
without n ms = filter (is_other n) ms

distinct_without : (n : ℕ) (ms : List ℕ) → AreDistinct ms → AreDistinct (without n ms)
distinct_without n [] d = tt
distinct_without n (m ∷ ms) d = at (is_other n m) (distinct_without n ms d.1)
  where
    at : (b : Bool) → AreDistinct (without n ms) → AreDistinct (cond b (m ∷ without n ms) (without n ms))
    at true later = ((λ i. d.0 (filtered (is_other n) m ms i).0), later)
    at false later = later

module _ (n x y : ℕ) (not_x : n ≡ x → ⊥) (not_y : n ≡ y → ⊥) where
  before_without : (ms : List ℕ) → IsFirstBefore x y (without n ms) ↔ IsFirstBefore x y ms
  before_without [] = ((λ h. h), λ h. h)
  before_without (m ∷ ms) = elim (numbers n m) [
    | inl e ↦ subst (λ b. IsFirstBefore x y (cond b (m ∷ without n ms) (without n ms)) ↔ IsFirstBefore x y (m ∷ ms))
        (sym (ap not (eq-eqb m n (sym e)))) (passed e (before_without ms))
    | inr o ↦ subst (λ b. IsFirstBefore x y (cond b (m ∷ without n ms) (without n ms)) ↔ IsFirstBefore x y (m ∷ ms))
        (sym (is_another n m o)) (kept (before_without ms))
  ]
    where
      passed : n ≡ m → IsFirstBefore x y (without n ms) ↔ IsFirstBefore x y ms
          → IsFirstBefore x y (without n ms) ↔ IsFirstBefore x y (m ∷ ms)
      passed e h = (
        (λ b. (before_split x y m ms).1 ((λ s. not_y (e ∙ s)), inr (h.0 b))),
        λ b. elim ((before_split x y m ms).0 b).1 [ inl s ↦ absurd (not_x (e ∙ s)) | inr c ↦ h.1 c ],
      )

      kept : IsFirstBefore x y (without n ms) ↔ IsFirstBefore x y ms
          → IsFirstBefore x y (m ∷ without n ms) ↔ IsFirstBefore x y (m ∷ ms)
      kept h = (
        (λ b. let s = (before_split x y m (without n ms)).0 b in
            (before_split x y m ms).1 (s.0, elim s.1 [ inl t ↦ inl t | inr c ↦ inr (h.0 c) ])),
        λ b. let s = (before_split x y m ms).0 b in
            (before_split x y m (without n ms)).1 (s.0, elim s.1 [ inl t ↦ inl t | inr c ↦ inr (h.1 c) ]),
      )

-- one more before the others
one_more : (n : ℕ) (all once : List ℕ) → IsEachOnce all once → IsEachOnce (n ∷ all) (n ∷ without n once)
one_more n all once h = record {
  members = λ x. (
    (λ (i : (n ≡ x) ⊎ IsIn x (without n once)). elim i [
      | inl e ↦ inl e
      | inr j ↦ inr ((h.members x).0 (filtered (is_other n) x once j).0)
    ]),
    λ (i : (n ≡ x) ⊎ IsIn x all). elim (numbers n x) [
      | inl e ↦ inl e
      | inr o ↦ elim i [
        | inl e ↦ inl e
        | inr j ↦ inr (let_through (is_other n) x once ((h.members x).1 j) (is_another n x o))
      ]
    ],
  );
  distinct = (
    (λ i. not_itself n (filtered (is_other n) n once i).1),
    distinct_without n once h.distinct,
  );
  order = λ x y. (
    (λ b. let s = (before_split x y n (without n once)).0 b in
        (before_split x y n all).1 (
          s.0,
          elim (numbers n x) [
            | inl e ↦ inl e
            | inr o ↦ elim s.1 [
              | inl e ↦ inl e
              | inr c ↦ inr ((h.order x y).0 ((before_without n x y o s.0 once).0 c))
            ]
          ],
        )),
    λ b. let s = (before_split x y n all).0 b in
        (before_split x y n (without n once)).1 (
          s.0,
          elim (numbers n x) [
            | inl e ↦ inl e
            | inr o ↦ elim s.1 [
              | inl e ↦ inl e
              | inr c ↦ inr ((before_without n x y o s.0 once).1 ((h.order x y).1 c))
            ]
          ],
        ),
  );
}

pub distinct_once : (ns : List ℕ) → IsEachOnce ns (distinct ns)
distinct_once [] = record {
  members = λ x. ((λ h. h), λ h. h);
  distinct = tt;
  order = λ x y. ((λ h. h), λ h. h);
}
distinct_once (n ∷ ns) = one_more n ns (distinct ns) (distinct_once ns)

pub sources_once : SourcesAreEachOnce
sources_once attrs sources =
    let all : List ℕ = filter_map source_in attrs ++ filter_map repairing_in attrs in (
      (λ e. subst (λ (l : List ℕ). IsEachOnce all l) (sym e) (distinct_once all)),
      λ h. one_list all sources (distinct all) h (distinct_once all),
    )

-- The members of a list, each once.
use Rattle.std.proofs.Common.{◌≡◌, ◌⊎◌, inl, inr, ◌↔◌, List, [], ◌∷◌, ◌++◌, refl, sym, ◌∙◌, ap, subst, append_assoc}
use Rattle.std.proofs.Common.{append-nil}
use Rattle.std.specs.List.{FoldsTo}
use Rattle.sdp_formats_laws.proofs.Decided.{Decided}
use Rattle.sdp_formats_laws.specs.EachOnce.{AreDistinct, IsEachOnce, IsFirstBefore}
use Rattle.sdp_formats_rounds.specs.Members.{IsIn}

-- members of lists after one another
pub in_front : {A : Type 0} (x : A) (xs ys : List A) → IsIn x xs → IsIn x (xs ++ ys)
in_front x [] ys h = absurd h
in_front x (z ∷ zs) ys (inl e) = inl e
in_front x (z ∷ zs) ys (inr h) = inr (in_front x zs ys h)

pub in_back : {A : Type 0} (x : A) (xs ys : List A) → IsIn x ys → IsIn x (xs ++ ys)
in_back x [] ys h = h
in_back x (z ∷ zs) ys h = inr (in_back x zs ys h)

pub in_either : {A : Type 0} (x : A) (xs ys : List A) → IsIn x (xs ++ ys) → IsIn x xs ⊎ IsIn x ys
in_either x [] ys h = inr h
in_either x (z ∷ zs) ys (inl e) = inl (inl e)
in_either x (z ∷ zs) ys (inr h) = elim (in_either x zs ys h) [ inl k ↦ inl (inr k) | inr k ↦ inr k ]

-- which first place is before which, with more after
pub before_more : {A : Type 0} (x y : A) (xs more : List A) → IsFirstBefore x y xs → IsFirstBefore x y (xs ++ more)
before_more x y xs more h =
    (h.0, h.1 ++ more, ap (λ l. l ++ more) h.2 ∙ append_assoc h.0 h.1 more, h.3, h.4)

pub whole : {A : Type 0} (x y : A) (xs : List A) → IsIn x xs → (IsIn y xs → ⊥) → IsFirstBefore x y xs
whole x y xs h k = (xs, [], sym (append-nil xs), h, k)

-- a front of a list with one more after is a front of the list, or all of it
fronts : {A : Type 0} (x : A) (xs front back : List A) → xs ++ x ∷ [] ≡ front ++ back
    → ((rest : List A) × (xs ≡ front ++ rest)) ⊎ (front ≡ xs ++ x ∷ [])
fronts x xs [] back e = inl (xs, refl)
fronts x [] (f ∷ []) back e = inr cc
fronts x [] (f ∷ (g ∷ fs)) back e = absurd cc
fronts x (z ∷ zs) (f ∷ fs) back e =
    let head : z ≡ f = cc in
    let tail : zs ++ x ∷ [] ≡ fs ++ back = cc in
    elim (fronts x zs fs back tail) [
      | inl r ↦ inl (r.0, (λ i. head i ∷ r.1 i))
      | inr r ↦ inr (λ i. sym head i ∷ r i)
    ]

before_one : {A : Type 0} (x y z : A) (xs : List A) → IsFirstBefore x y (xs ++ z ∷ [])
    → IsFirstBefore x y xs ⊎ (IsIn x (xs ++ z ∷ []) × (IsIn y (xs ++ z ∷ []) → ⊥))
before_one {A} x y z xs h = elim (fronts z xs h.0 h.1 h.2) [
  | inl r ↦ inl (h.0, r.0, r.1, h.3, h.4)
  | inr r ↦ inr (subst (λ (l : List A). IsIn x l × (IsIn y l → ⊥)) r (h.3, h.4))
]

-- one more after members that are each once
pub distinct_more : {A : Type 0} (x : A) (xs : List A) → AreDistinct xs → (IsIn x xs → ⊥) → AreDistinct (xs ++ x ∷ [])
distinct_more x [] h k = ((λ e. e), tt)
distinct_more x (z ∷ zs) h k = (
  (λ g. elim (in_either z zs (x ∷ []) g) [
    | inl i ↦ h.0 i
    | inr i ↦ elim i [ inl e ↦ k (inl (sym e)) | inr n ↦ n ]
  ]),
  distinct_more x zs h.1 (λ g. k (inr g)),
)

again : {A : Type 0} (x : A) (all once : List A) → IsEachOnce all once → IsIn x once → IsEachOnce (all ++ x ∷ []) once
again {A} x all once h k =
    let back : (y : A) → IsIn y (all ++ x ∷ []) → IsIn y once = λ y g. elim (in_either y all (x ∷ []) g) [
      | inl i ↦ (h.members y).1 i
      | inr i ↦ elim i [ inl e ↦ subst (λ (z : A). IsIn z once) e k | inr n ↦ absurd n ]
    ] in
    let forth : (y : A) → IsIn y once → IsIn y (all ++ x ∷ []) = λ y g. in_front y all (x ∷ []) ((h.members y).0 g) in
    record {
      members = λ y. (forth y, back y);
      distinct = h.distinct;
      order = λ y z. (
        (λ g. before_more y z all (x ∷ []) ((h.order y z).0 g)),
        λ g. elim (before_one y z x all g) [
          | inl i ↦ (h.order y z).1 i
          | inr i ↦ whole y z once (back y i.0) (λ n. i.1 (forth z n))
        ],
      );
    }

-- what is before what among more members goes by the members
module _ {A : Type 0} (x : A) (all once : List A)
    (members : (y : A) → IsIn y (once ++ x ∷ []) ↔ IsIn y (all ++ x ∷ [])) where
  ordered : (y z : A) → (IsFirstBefore y z once → IsFirstBefore y z all)
      → IsFirstBefore y z (once ++ x ∷ []) → IsFirstBefore y z (all ++ x ∷ [])
  ordered y z h g = elim (before_one y z x once g) [
    | inl i ↦ before_more y z all (x ∷ []) (h i)
    | inr i ↦ whole y z (all ++ x ∷ []) ((members y).0 i.0) (λ n. i.1 ((members z).1 n))
  ]

in_both : {A : Type 0} (x : A) (xs ys : List A) → ((y : A) → IsIn y xs → IsIn y ys)
    → (y : A) → IsIn y (xs ++ x ∷ []) → IsIn y (ys ++ x ∷ [])
in_both x xs ys h y g = elim (in_either y xs (x ∷ []) g) [
  | inl i ↦ in_front y ys (x ∷ []) (h y i)
  | inr i ↦ in_back y ys (x ∷ []) i
]

more : {A : Type 0} (x : A) (all once : List A) → IsEachOnce all once → (IsIn x once → ⊥)
    → IsEachOnce (all ++ x ∷ []) (once ++ x ∷ [])
more {A} x all once h k =
    let forth : (y : A) → IsIn y (once ++ x ∷ []) → IsIn y (all ++ x ∷ [])
    = in_both x once all (λ y. (h.members y).0) in
    let back : (y : A) → IsIn y (all ++ x ∷ []) → IsIn y (once ++ x ∷ [])
    = in_both x all once (λ y. (h.members y).1) in
    record {
      members = λ y. (forth y, back y);
      distinct = distinct_more x once h.distinct k;
      order = λ y z. (
        ordered x all once (λ u. (forth u, back u)) y z (h.order y z).0,
        ordered x once all (λ u. (back u, forth u)) y z (h.order y z).1,
      );
    }

-- one more is put after the others, if it isn't among them yet
abbrev pub Adds : {A : Type 0} → List A → A → List A → Type 0
Adds seen x now = (IsIn x seen × (now ≡ seen)) ⊎ ((IsIn x seen → ⊥) × (now ≡ seen ++ x ∷ []))

none_yet : {A : Type 0} → IsEachOnce {A = A} [] []
none_yet = record {
  members = λ x. ((λ h. h), λ h. h);
  distinct = tt;
  order = λ x y. ((λ h. h), λ h. h);
}

one_step : {A : Type 0} (x : A) (all seen now : List A) → IsEachOnce all seen → Adds seen x now
    → IsEachOnce (all ++ x ∷ []) now
one_step {A} x all seen now h (inl a) =
    subst (λ (l : List A). IsEachOnce (all ++ x ∷ []) l) (sym a.1) (again x all seen h a.0)
one_step {A} x all seen now h (inr a) =
    subst (λ (l : List A). IsEachOnce (all ++ x ∷ []) l) (sym a.1) (more x all seen h a.0)

folded : {A : Type 0} (all seen xs once : List A) → IsEachOnce all seen → FoldsTo Adds seen xs once
    → IsEachOnce (all ++ xs) once
folded {A} all seen [] once h f =
    subst (λ (l : List A). IsEachOnce l once) (sym (append-nil all))
    (subst (λ (l : List A). IsEachOnce all l) f h)
folded {A} all seen (x ∷ xs) once h f =
    subst (λ (l : List A). IsEachOnce l once) (append_assoc all (x ∷ []) xs)
    (folded (all ++ x ∷ []) f.0 xs once (one_step x all seen f.0 h f.1) f.2)

pub each_once : {A : Type 0} (xs once : List A) → FoldsTo Adds [] xs once → IsEachOnce xs once
each_once xs once f = folded [] [] xs once none_yet f

-- there is one such list: of two, each begins with what the other begins with
abbrev Follows : {A : Type 0} → List A → List A → Type 0
Follows {A} xs ys = (u v : A) → IsIn u xs → IsIn v xs → IsFirstBefore u v xs → IsFirstBefore u v ys

heads_same : {A : Type 0} (x y : A) (xs ys : List A) → IsIn y (x ∷ xs) → (IsIn x xs → ⊥)
    → Follows (x ∷ xs) (y ∷ ys) → x ≡ y
heads_same x y xs ys (inl e) apart h = e
heads_same {A} x y xs ys (inr i) apart h =
    let first : IsFirstBefore x y (x ∷ xs) = (
      x ∷ [],
      xs,
      refl,
      inl refl,
      λ (g : (x ≡ y) ⊎ ⊥). elim g [
        | inl e ↦ apart (subst (λ (z : A). IsIn z xs) (sym e) i)
        | inr n ↦ n
      ],
    ) in
    absurd (none_before (h x y (inl refl) (inr i) first))
  where
    none_front : (front back : List A) → y ∷ ys ≡ front ++ back → IsIn x front → (IsIn y front → ⊥) → ⊥
    none_front [] back e h k = h
    none_front (f ∷ fs) back e h k = k (inl cc)

    none_before : IsFirstBefore x y (y ∷ ys) → ⊥
    none_before b = none_front b.0 b.1 b.2 b.3 b.4

behind_same : {A : Type 0} (x : A) (xs ys : List A) → (IsIn x xs → ⊥) → ((u : A) → IsIn u (x ∷ xs) → IsIn u (x ∷ ys))
    → (u : A) → IsIn u xs → IsIn u ys
behind_same {A} x xs ys apart h u i = elim (h u (inr i)) [
  | inl e ↦ absurd (apart (subst (λ (z : A). IsIn z xs) (sym e) i))
  | inr k ↦ k
]

behind_follows : {A : Type 0} (x : A) (xs ys : List A) → (IsIn x xs → ⊥) → Follows (x ∷ xs) (x ∷ ys) → Follows xs ys
behind_follows {A} x xs ys apart h u v i k b =
    let apart_from : (z : A) → IsIn z xs → x ≡ z → ⊥ = λ z j e. apart (subst (λ (w : A). IsIn w xs) (sym e) j) in
    let longer : IsFirstBefore u v (x ∷ xs) = (
      x ∷ b.0,
      b.1,
      (λ j. x ∷ b.2 j),
      inr b.3,
      λ (g : (x ≡ v) ⊎ IsIn v b.0). elim g [ inl e ↦ apart_from v k e | inr n ↦ b.4 n ],
    ) in
    let f = h u v (inr i) (inr k) longer in
    shorter (apart_from u i) f.0 f.1 f.2 f.3 f.4
  where
    shorter : (x ≡ u → ⊥) → (front back : List A) → x ∷ ys ≡ front ++ back → IsIn u front → (IsIn v front → ⊥)
        → IsFirstBefore u v ys
    shorter n [] back e g m = absurd g
    shorter n (f ∷ fs) back e (inl g) m = absurd (n (cc))
    shorter n (f ∷ fs) back e (inr g) m = (fs, back, cc, g, λ w. m (inr w))

-- what is known of a list and of one that begins alike
abbrev Tails : {A : Type 0} → List A → List A → A → A → Type 0
Tails {A} xs ys x z = (IsIn z ys → ⊥) × ((u : A) → IsIn u (x ∷ xs) → IsIn u (z ∷ ys))
    × ((u : A) → IsIn u (z ∷ ys) → IsIn u (x ∷ xs)) × Follows (x ∷ xs) (z ∷ ys)

same_list : {A : Type 0} (xs ys : List A) → AreDistinct xs → AreDistinct ys → ((u : A) → IsIn u xs → IsIn u ys)
    → ((u : A) → IsIn u ys → IsIn u xs) → Follows xs ys → xs ≡ ys
same_list [] [] d e f g h = refl
same_list [] (y ∷ ys) d e f g h = absurd (g y (inl refl))
same_list (x ∷ xs) [] d e f g h = absurd (f x (inl refl))
same_list {A} (x ∷ xs) (y ∷ ys) d e f g h =
    let head : x ≡ y = heads_same x y xs ys (g y (inl refl)) d.0 h in
    let t : Tails xs ys x x = subst (λ (z : A). Tails xs ys x z) (sym head) (e.0, f, g, h) in
    let tail : xs ≡ ys = same_list xs ys d.1 e.1 (behind_same x xs ys d.0 t.1) (behind_same x ys xs t.0 t.2)
    (behind_follows x xs ys d.0 t.3) in
    λ i. head i ∷ tail i

pub one_list : {A : Type 0} (all once other : List A) → IsEachOnce all once → IsEachOnce all other → once ≡ other
one_list all once other h k = same_list once other h.distinct k.distinct
    (λ u i. (k.members u).1 ((h.members u).0 i)) (λ u i. (h.members u).1 ((k.members u).0 i))
    (λ u v _ _ b. (k.order u v).1 ((h.order u v).0 b))

-- if equality can be decided, there is such a list, and it is what the members are put together to
pub in_decided : {A : Type 0} → Decided A → (x : A) (xs : List A) → IsIn x xs ⊎ (IsIn x xs → ⊥)
in_decided same x [] = inr (λ h. h)
in_decided same x (y ∷ ys) = elim (same y x) [
  | inl e ↦ inl (inl e)
  | inr n ↦ elim (in_decided same x ys) [
    | inl i ↦ inl (inr i)
    | inr m ↦ inr (λ (h : (y ≡ x) ⊎ IsIn x ys). elim h [ inl e ↦ n e | inr i ↦ m i ])
  ]
]

there_is : {A : Type 0} → Decided A → (seen xs : List A) → (once : List A) × FoldsTo Adds seen xs once
there_is same seen [] = (seen, refl)
there_is same seen (x ∷ xs) = elim (in_decided same x seen) [
  | inl i ↦ (let r = there_is same seen xs in (r.0, (seen, inl (i, refl), r.1)))
  | inr n ↦ (let r = there_is same (seen ++ x ∷ []) xs in (r.0, (seen ++ x ∷ [], inr (n, refl), r.1)))
]

pub put_together : {A : Type 0} → Decided A → (xs once : List A) → IsEachOnce xs once → FoldsTo Adds [] xs once
put_together {A} same xs once h =
    let r = there_is same [] xs in
    subst (λ (l : List A). FoldsTo Adds [] xs l) (one_list xs r.0 once (each_once xs r.0 r.1) h) r.1

pub one_of_each : {A : Type 0} → Decided A → (all : List A) → (once : List A) × IsEachOnce all once
    × ((other : List A) → IsEachOnce all other → other ≡ once)
one_of_each same all =
    let r = there_is same [] all in
    let h = each_once all r.0 r.1 in
    (r.0, h, λ other k. one_list all other r.0 k h)

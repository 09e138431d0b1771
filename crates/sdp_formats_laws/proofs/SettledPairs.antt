-- Entries of pairs, each key once.
use Rattle.std.proofs.Common.{◌≡◌, ◌⊎◌, inl, inr, ℕ, true, false, List, [], ◌∷◌, ◌++◌, if◌then◌else◌}
use Rattle.std.proofs.Common.{map, nat_eq, refl, sym, ◌∙◌, ap, subst}
use Rattle.std.specs.Cmp.Lexicographic.{pointwise}
use Rattle.std.specs.List.{FoldsTo}
use Rattle.std.specs.Str.{bytes_eq}
use Rattle.std.proofs.lemmas.Bool.{cases_Bool}
use Rattle.std.proofs.lemmas.Slice.Eq.{bytes_eq-Decides}
use Rattle.indexmap.specs.IndexMap.{insert_entry}
use Rattle.sdp_formats_values.specs.Params.{Entries, with_pair, with_pairs}
use Rattle.sdp_formats_values.specs.declared.pairs.Pair.{Pair}
use Rattle.sdp_formats_laws.proofs.Decided.{texts}
use Rattle.sdp_formats_laws.proofs.EachOnce.{Adds, distinct_more, each_once, one_list}
use Rattle.sdp_formats_laws.proofs.LastValues.{last_here, last_later, last_split}
use Rattle.sdp_formats_laws.specs.EachOnce.{AreDistinct}
use Rattle.sdp_formats_rounds.specs.Members.{IsIn}
use Rattle.sdp_formats_laws.specs.RepeatedKeys.{AreSettled, EntriesHaveLast, IsLastValue, PairsAreSettled}
use Rattle.sdp_formats_laws.specs.RepeatedKeys.{ValuesAreLast, keys_of, lower}

abbrev entry_keys : Entries → List (List ℕ)
entry_keys es = map (λ e. e.0) es

abbrev put : Entries → List ℕ → List ℕ → Entries
put es k v = insert_entry (pointwise nat_eq) es k v

key_in : (k v : List ℕ) (es : Entries) → IsIn (k, v) es → IsIn k (entry_keys es)
key_in k v [] h = absurd h
key_in k v (e ∷ es) (inl s) = inl (ap (λ (x : List ℕ × List ℕ). x.0) s)
key_in k v (e ∷ es) (inr h) = inr (key_in k v es h)

-- an entry is put in the place of its key, or after the others
in_place : (e : List ℕ × List ℕ) (es : Entries) (k v : List ℕ) → k ≡ e.0 → put (e ∷ es) k v ≡ (e.0, v) ∷ es
in_place e es k v s = ap (λ b. if b then ((e.0, v) ∷ es) else (e ∷ put es k v)) ((bytes_eq-Decides k e.0).1 s)

further : (e : List ℕ × List ℕ) (es : Entries) (k v : List ℕ) → (k ≡ e.0 → ⊥) → put (e ∷ es) k v ≡ e ∷ put es k v
further e es k v n = ap (λ b. if b then ((e.0, v) ∷ es) else (e ∷ put es k v)) (other (cases_Bool (bytes_eq k e.0)))
  where
    other : (bytes_eq k e.0 ≡ true) ⊎ (bytes_eq k e.0 ≡ false) → bytes_eq k e.0 ≡ false
    other (inl t) = absurd (n ((bytes_eq-Decides k e.0).0 t))
    other (inr f) = f

keys_put : (es : Entries) (k v : List ℕ) → Adds (entry_keys es) k (entry_keys (put es k v))
keys_put [] k v = inr ((λ h. h), refl)
keys_put (e ∷ es) k v = elim (texts k e.0) [
  | inl s ↦ inl (inl (sym s), ap entry_keys (in_place e es k v s))
  | inr n ↦ elim (keys_put es k v) [
    | inl a ↦ inl (inr a.0, ap entry_keys (further e es k v n) ∙ ap (λ l. e.0 ∷ l) a.1)
    | inr a ↦ inr (
      (λ (i : (e.0 ≡ k) ⊎ IsIn k (entry_keys es)). elim i [ inl s ↦ n (sym s) | inr j ↦ a.0 j ]),
      ap entry_keys (further e es k v n) ∙ ap (λ l. e.0 ∷ l) a.1,
    )
  ]
]

keys_fold : (es : Entries) (ps : List Pair) → FoldsTo Adds (entry_keys es) (keys_of ps) (entry_keys (with_pairs es ps))
keys_fold es [] = refl
keys_fold es (p ∷ ps) = (
  entry_keys (with_pair es p),
  keys_put es (lower p.key) p.value,
  keys_fold (with_pair es p) ps,
)

distinct_put : (es : Entries) (k v : List ℕ) → AreDistinct (entry_keys es) → AreDistinct (entry_keys (put es k v))
distinct_put es k v d = elim (keys_put es k v) [
  | inl a ↦ subst AreDistinct (sym a.1) d
  | inr a ↦ subst AreDistinct (sym a.1) (distinct_more k (entry_keys es) d a.0)
]

-- the entries then: the new one, and those of other keys
abbrev IsPut : Entries → List ℕ → List ℕ → List ℕ → List ℕ → Type 0
IsPut es k v key value = ((k ≡ key) × (v ≡ value)) ⊎ ((k ≡ key → ⊥) × IsIn (key, value) es)

same_parts : (k v key value : List ℕ) → ◌≡◌ {A = List ℕ × List ℕ} (k, v) (key, value) → (k ≡ key) × (v ≡ value)
same_parts k v key value s = (ap (λ (x : List ℕ × List ℕ). x.0) s, ap (λ (x : List ℕ × List ℕ). x.1) s)

put_tells : (es : Entries) (k v key value : List ℕ) → AreDistinct (entry_keys es) → IsIn (key, value) (put es k v)
    → IsPut es k v key value
put_tells [] k v key value d (inl s) = inl (same_parts k v key value s)
put_tells [] k v key value d (inr h) = absurd h
put_tells (e ∷ es) k v key value d h = elim (texts k e.0) [
  | inl s ↦ elim (subst (λ (l : Entries). IsIn (key, value) l) (in_place e es k v s) h) [
    | inl t ↦ (let p = same_parts e.0 v key value t in inl (s ∙ p.0, p.1))
    | inr i ↦ inr ((λ t. d.0 (subst (λ x. IsIn x (entry_keys es)) (sym t ∙ s) (key_in key value es i))), inr i)
  ]
  | inr n ↦ elim (subst (λ (l : Entries). IsIn (key, value) l) (further e es k v n) h) [
    | inl t ↦ inr ((λ u. n (u ∙ sym (ap (λ (x : List ℕ × List ℕ). x.0) t))), inl t)
    | inr i ↦ elim (put_tells es k v key value d.1 i) [
      | inl both ↦ inl both
      | inr other ↦ inr (other.0, inr other.1)
    ]
  ]
]

put_has : (es : Entries) (k v : List ℕ) → IsIn (k, v) (put es k v)
put_has [] k v = inl refl
put_has (e ∷ es) k v = elim (texts k e.0) [
  | inl s ↦ subst (λ (l : Entries). IsIn (k, v) l) (sym (in_place e es k v s)) (inl (λ i. (sym s i, v)))
  | inr n ↦ subst (λ (l : Entries). IsIn (k, v) l) (sym (further e es k v n)) (inr (put_has es k v))
]

put_keeps : (es : Entries) (k v key value : List ℕ) → (k ≡ key → ⊥) → IsIn (key, value) es
    → IsIn (key, value) (put es k v)
put_keeps [] k v key value m h = absurd h
put_keeps (e ∷ es) k v key value m h = elim (texts k e.0) [
  | inl s ↦ subst (λ (l : Entries). IsIn (key, value) l) (sym (in_place e es k v s)) (elim h [
    | inl t ↦ absurd (m (s ∙ ap (λ (x : List ℕ × List ℕ). x.0) t))
    | inr i ↦ inr i
  ])
  | inr n ↦ subst (λ (l : Entries). IsIn (key, value) l) (sym (further e es k v n)) (elim h [
    | inl t ↦ inl t
    | inr i ↦ inr (put_keeps es k v key value m i)
  ])
]

put_of : (es : Entries) (k v key value : List ℕ) → IsPut es k v key value → IsIn (key, value) (put es k v)
put_of es k v key value (inl both) =
    subst (λ (x : List ℕ × List ℕ). IsIn x (put es k v)) (λ i. (both.0 i, both.1 i)) (put_has es k v)
put_of es k v key value (inr other) = put_keeps es k v key value other.0 other.1

-- the entries of pairs after others
abbrev IsBehind : Entries → List Pair → List ℕ → List ℕ → Type 0
IsBehind es ps key value =
    IsLastValue key value ps ⊎ ((IsIn key (keys_of ps) → ⊥) × IsIn (key, value) es)

pairs_tell : (es : Entries) (ps : List Pair) (key value : List ℕ) → AreDistinct (entry_keys es)
    → IsIn (key, value) (with_pairs es ps) → IsBehind es ps key value
pairs_tell es [] key value d h = inr ((λ i. i), h)
pairs_tell es (p ∷ ps) key value d h = elim (pairs_tell (with_pair es p) ps key value
    (distinct_put es (lower p.key) p.value d) h) [
      | inl later ↦ inl (last_later key value p ps later)
      | inr r ↦ elim (put_tells es (lower p.key) p.value key value d r.1) [
        | inl both ↦ inl (last_here key value p ps (both.0, both.1, r.0))
        | inr other ↦ inr (
          (λ (i : (lower p.key ≡ key) ⊎ IsIn key (keys_of ps)). elim i [ inl s ↦ other.0 s | inr j ↦ r.0 j ]),
          other.1,
        )
      ]
    ]

pairs_have : (es : Entries) (ps : List Pair) (key value : List ℕ) → IsBehind es ps key value
    → IsIn (key, value) (with_pairs es ps)
pairs_have es [] key value (inl h) = absurd (nowhere h.0 h.3)
  where
    nowhere : (front : List Pair) → [] ≡ front ++ h.1 ∷ h.2 → ⊥
    nowhere [] e = cc
    nowhere (q ∷ front) e = cc
pairs_have es [] key value (inr r) = r.1
pairs_have es (p ∷ ps) key value (inl h) = pairs_have (with_pair es p) ps key value
    (elim (last_split key value p ps h) [
      | inl here ↦ inr (here.2, put_of es (lower p.key) p.value key value (inl (here.0, here.1)))
      | inr later ↦ inl later
    ])
pairs_have es (p ∷ ps) key value (inr r) = pairs_have (with_pair es p) ps key value (inr (
  (λ i. r.0 (inr i)),
  put_of es (lower p.key) p.value key value (inr ((λ s. r.0 (inl s)), r.1)),
))

settled : (ps : List Pair) → AreSettled ps (with_pairs [] ps)
settled ps = record {
  keys = each_once (keys_of ps) (entry_keys (with_pairs [] ps)) (keys_fold [] ps);
  values = λ key value. (
    (λ h. elim (pairs_tell [] ps key value tt h) [ inl l ↦ l | inr r ↦ absurd r.1 ]),
    λ l. pairs_have [] ps key value (inl l),
  );
}

-- entries of distinct keys are given by their keys and their members
same_entries : (es others : Entries) → AreDistinct (entry_keys es) → entry_keys es ≡ entry_keys others
    → ((x : List ℕ × List ℕ) → IsIn x es → IsIn x others) → es ≡ others
same_entries [] [] d e h = refl
same_entries [] (o ∷ os) d e h = absurd cc
same_entries (x ∷ xs) [] d e h = absurd (h x (inl refl))
same_entries (x ∷ xs) (o ∷ os) d e h =
    let tails : entry_keys xs ≡ entry_keys os = cc in
    let heads : x.0 ≡ o.0 = cc in
    let head : o ≡ x = elim (h x (inl refl)) [
      | inl s ↦ s
      | inr i ↦ absurd (d.0 (subst (λ (l : List (List ℕ)). IsIn x.0 l) (sym tails) (key_in x.0 x.1 os i)))
    ] in
    let later : (y : List ℕ × List ℕ) → IsIn y xs → IsIn y os = λ y i. elim (h y (inr i)) [
      | inl s ↦ absurd (d.0 (subst (λ (z : List ℕ). IsIn z (entry_keys xs))
          (sym (heads ∙ ap (λ (x : List ℕ × List ℕ). x.0) s)) (key_in y.0 y.1 xs i)))
      | inr j ↦ j
    ] in
    λ i. sym head i ∷ same_entries xs os d.1 tails later i

one_settled : (ps : List Pair) (es others : Entries) → AreSettled ps es → AreSettled ps others → es ≡ others
one_settled ps es others h k =
    same_entries es others h.keys.distinct (one_list (keys_of ps) (entry_keys es) (entry_keys others) h.keys k.keys)
    (λ x i. (k.values x.0 x.1).1 ((h.values x.0 x.1).0 i))

pub pairs_settled : PairsAreSettled
pairs_settled ps es = (
  (λ e. subst (λ (l : Entries). AreSettled ps l) (sym e) (settled ps)),
  λ h. one_settled ps es (with_pairs [] ps) h (settled ps),
)

pub entries_last : ValuesAreLast → PairsAreSettled → EntriesHaveLast
entries_last last settles name value ps =
    let some = (last name ps).some value in
    let values = ((settles ps (with_pairs [] ps)).0 refl).values (lower name) value in
    ((λ e. values.1 (some.0 e)), λ i. some.1 (values.0 i))

-- The value of the last pair of a key.
use Rattle.std.proofs.Common.{◌≡◌, ◌⊎◌, inl, inr, ℕ, Bool, true, false, List, [], ◌∷◌, ◌++◌, Option, Some, None}
use Rattle.std.proofs.Common.{refl, sym, ◌∙◌, ap, subst}
use Rattle.std.specs.Str.{str_eq_ignore_ascii_case}
use Rattle.std.proofs.lemmas.Bool.{cases_Bool}
use Rattle.std.proofs.lemmas.Slice.Eq.{bytes_eq-Decides}
use Rattle.sdp_formats_values.specs.Params.{last_value, or_before}
use Rattle.sdp_formats_values.specs.declared.pairs.Pair.{Pair}
use Rattle.sdp_formats_laws.proofs.Decided.{texts}
use Rattle.sdp_formats_laws.proofs.EachOnce.{in_decided}
use Rattle.sdp_formats_rounds.specs.Members.{IsIn}
use Rattle.sdp_formats_laws.specs.RepeatedKeys.{IsLastValue, ValuesAreLast, keys_of, lower}

-- the last pair is the first one, or one of the others
abbrev pub IsLastHere : List ℕ → List ℕ → Pair → List Pair → Type 0
IsLastHere key value p ps = (lower p.key ≡ key) × (p.value ≡ value) × (IsIn key (keys_of ps) → ⊥)

pub last_later : (key value : List ℕ) (p : Pair) (ps : List Pair) → IsLastValue key value ps
    → IsLastValue key value (p ∷ ps)
last_later key value p ps h = (p ∷ h.0, h.1, h.2, ap (λ l. p ∷ l) h.3, h.4, h.5, h.6)

pub last_here : (key value : List ℕ) (p : Pair) (ps : List Pair) → IsLastHere key value p ps
    → IsLastValue key value (p ∷ ps)
last_here key value p ps h = ([], p, ps, refl, h.0, h.1, h.2)

pub last_split : (key value : List ℕ) (p : Pair) (ps : List Pair) → IsLastValue key value (p ∷ ps)
    → IsLastHere key value p ps ⊎ IsLastValue key value ps
last_split key value p ps h = at h.0 h.3
  where
    at : (front : List Pair) → p ∷ ps ≡ front ++ h.1 ∷ h.2
        → IsLastHere key value p ps ⊎ IsLastValue key value ps
    at [] e =
        let head : p ≡ h.1 = cc in
        let tail : ps ≡ h.2 = cc in
        inl (
          ap (λ (q : Pair). lower q.key) head ∙ h.4,
          ap (λ (q : Pair). q.value) head ∙ h.5,
          λ i. h.6 (subst (λ l. IsIn key (keys_of l)) tail i),
        )
    at (q ∷ front) e = inr (front, h.1, h.2, cc, h.4, h.5, h.6)

-- if there is a pair of the key, there is a last one
pub last_there : (key : List ℕ) (ps : List Pair) → IsIn key (keys_of ps) → (value : List ℕ) × IsLastValue key value ps
last_there key [] i = absurd i
last_there key (p ∷ ps) i = elim (in_decided texts key (keys_of ps)) [
  | inl later ↦ (let l = last_there key ps later in (l.0, last_later key l.0 p ps l.1))
  | inr none ↦ elim i [
    | inl e ↦ (p.value, last_here key p.value p ps (e, refl, none))
    | inr j ↦ absurd (none j)
  ]
]

module _ (name : List ℕ) where
  abbrev named : Pair → Bool
  named p = str_eq_ignore_ascii_case name p.key

  is_named : (p : Pair) → lower p.key ≡ lower name → named p ≡ true
  is_named p e = (bytes_eq-Decides (lower name) (lower p.key)).1 (sym e)

  not_named : (p : Pair) → (lower p.key ≡ lower name → ⊥) → named p ≡ false
  not_named p n = elim (cases_Bool (named p)) [
    | inl e ↦ absurd (n (sym ((bytes_eq-Decides (lower name) (lower p.key)).0 e)))
    | inr e ↦ e
  ]

  -- no pair of the name
  past : (before : Option (List ℕ)) (ps : List Pair) → (IsIn (lower name) (keys_of ps) → ⊥)
      → last_value name before ps ≡ before
  past before [] n = refl
  past before (p ∷ ps) n =
      ap (λ b. last_value name (or_before b p.value before) ps) (not_named p (λ e. n (inl e)))
      ∙ past before ps (λ i. n (inr i))

  found : (value : List ℕ) (before : Option (List ℕ)) (ps : List Pair) → IsLastValue (lower name) value ps
      → last_value name before ps ≡ Some value
  found value before [] h = absurd (nowhere h.0 h.3)
    where
      nowhere : (front : List Pair) → [] ≡ front ++ h.1 ∷ h.2 → ⊥
      nowhere [] e = cc
      nowhere (q ∷ front) e = cc
  found value before (p ∷ ps) h = elim (last_split (lower name) value p ps h) [
    | inl here ↦ ap (λ b. last_value name (or_before b p.value before) ps) (is_named p here.0)
        ∙ past (Some p.value) ps here.2 ∙ ap Some here.1
    | inr later ↦ found value (or_before (named p) p.value before) ps later
  ]

  -- the last pair of the name, or what was before
  told : (value : List ℕ) (before : Option (List ℕ)) (ps : List Pair) → last_value name before ps ≡ Some value
      → IsLastValue (lower name) value ps ⊎ (before ≡ Some value)
  told value before ps e = elim (in_decided texts (lower name) (keys_of ps)) [
    | inl i ↦ (let l = last_there (lower name) ps i in
        let same : l.0 ≡ value = some_same (sym (found l.0 before ps l.1) ∙ e) in
        inl (subst (λ v. IsLastValue (lower name) v ps) same l.1))
    | inr n ↦ inr (sym (past before ps n) ∙ e)
  ]
    where
      some_same : {x y : List ℕ} → Some x ≡ Some y → x ≡ y
      some_same e = cc

pub last_of : ValuesAreLast
last_of name ps = record {
  some = λ value. (
    (λ e. elim (told name value None ps e) [ inl l ↦ l | inr n ↦ absurd (none_some value n) ]),
    found name value None ps,
  );
  none = (
    (λ e i. let l = last_there (lower name) ps i in none_some l.0 (sym e ∙ found name l.0 None ps l.1)),
    past name None ps,
  );
}
  where
    none_some : (value : List ℕ) → None ≡ Some value → ⊥
    none_some value e = cc

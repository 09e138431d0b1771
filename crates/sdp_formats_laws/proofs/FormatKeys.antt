-- Which key a text names.
use Rattle.std.proofs.Common.{◌≡◌, ◌⊎◌, inl, inr, ◌↔◌, ℕ, Bool, true, false, ◌||◌, List, [], ◌∷◌, Option, Some, None}
use Rattle.std.proofs.Common.{find, cond, refl, sym, ◌∙◌, ap, subst}
use Rattle.std.specs.Str.{bytes_eq}
use Rattle.std.proofs.lemmas.Bool.{cases_Bool, false≢true}
use Rattle.std.proofs.lemmas.Slice.Eq.{bytes_eq-Decides}
use Rattle.sdp_formats_rows.specs.LineValues.{has_level, is_key}
use Rattle.sdp_formats_values.specs.Keys.{all_keys, is_name_of, key_name, key_named}
use Rattle.sdp_formats_values.specs.declared.key.Key.{Key}
use Rattle.sdp_formats_values.specs.declared.key.Key.TheVariants as key
use Rattle.sdp_formats_laws.proofs.Options.{none_some, some_same}
use Rattle.sdp_formats_laws.specs.RepeatedKeys.{lower}

found : {A : Type 0} (test : A → Bool) (x : A) (xs : List A) → find test xs ≡ Some x → test x ≡ true
found test x [] e = absurd cc
found {A} test x (y ∷ ys) e = at (cases_Bool (test y)) (found test x ys)
  where
    at : (test y ≡ true) ⊎ (test y ≡ false) → (find test ys ≡ Some x → test x ≡ true) → test x ≡ true
    at (inl t) later =
        let same : y ≡ x = some_same (ap (λ (b : Bool). cond b (Some y) (find test ys)) (sym t) ∙ e) in
        ap test (sym same) ∙ t
    at (inr n) later = later (ap (λ (b : Bool). cond b (Some y) (find test ys)) (sym n) ∙ e)

-- the names are different, in any ASCII case
by_name : (k : Key) → find (λ other. bytes_eq (lower (key_name other)) (lower (key_name k))) all_keys ≡ Some k
by_name key.MinPTime = refl
by_name _ = refl

named_so : (k : Key) (text : List ℕ) → is_name_of k text ≡ true → key_named text ≡ Some k
unfolding key_named is_name_of
named_so k text e =
    let same : lower (key_name k) ≡ lower text = (bytes_eq-Decides (lower (key_name k)) (lower text)).0 e in
    subst (λ l. find (λ other. bytes_eq (lower (key_name other)) l) all_keys ≡ Some k) same (by_name k)

its_name : (k other : Key) (text : List ℕ) → key_named text ≡ Some other → is_key k (Some other) ≡ true
    → is_name_of k text ≡ true
unfolding key_named is_name_of
its_name k other text e h =
    let same : key_name other ≡ key_name k = (bytes_eq-Decides (key_name other) (key_name k)).0 h in
    subst (λ name. bytes_eq (lower name) (lower text) ≡ true) same
    (found (λ own. bytes_eq (lower (key_name own)) (lower text)) other all_keys e)

pub key_same : (k : Key) (text : List ℕ) → is_key k (key_named text) ≡ is_name_of k text
key_same k text = at (key_named text) refl (cases_Bool (is_name_of k text))
  where
    at : (o : Option Key) → key_named text ≡ o → (is_name_of k text ≡ true) ⊎ (is_name_of k text ≡ false)
        → is_key k o ≡ is_name_of k text
    at None e (inl t) = absurd (none_some (sym e ∙ named_so k text t))
    at None e (inr n) = sym n
    at (Some other) e (inl t) =
        let same : other ≡ k = some_same (sym e ∙ named_so k text t) in
        ap (λ o. is_key k (Some o)) same ∙ (bytes_eq-Decides (key_name k) (key_name k)).1 refl ∙ sym t
    at (Some other) e (inr n) = elim (cases_Bool (is_key k (Some other))) [
      | inl h ↦ absurd (false≢true (sym n ∙ its_name k other text e h))
      | inr h ↦ h ∙ sym n
    ]

pub level_keys : (o : Option Key) → has_level o ≡ (is_key key.TierFlag o || is_key key.LevelId o)
level_keys None = refl
level_keys (Some key.MinPTime) = refl
level_keys (Some _) = refl

in_lower : (k : Key) → lower (key_name k) ≡ key_name k
in_lower key.MinPTime = refl
in_lower _ = refl

pub name_in_lower : (k : Key) (text : List ℕ) → (is_name_of k text ≡ true) ↔ (lower text ≡ key_name k)
unfolding is_name_of
name_in_lower k text =
    let same = bytes_eq-Decides (lower (key_name k)) (lower text) in (
      (λ e. sym (same.0 e) ∙ in_lower k),
      λ h. same.1 (in_lower k ∙ sym h),
    )

-- Lists of payload types: what is on them.
use Rattle.std.proofs.Common.{◌≡◌, ℕ, Bool, true, false, ◌&&◌, ◌||◌, ◌==◌, List, [], ◌∷◌, ◌++◌, refl, sym, ◌∙◌, ap}
use Rattle.std.proofs.Common.{if◌then◌else◌}
use Rattle.std.specs.Prelude.{fold}
use Rattle.std.specs.List.{list_any}
use Rattle.std.proofs.Math.Bool.{and-false, and-true, or-false, or_assoc}
use Rattle.std.proofs.lemmas.Bool.{eqb-true}
use Rattle.std.proofs.lemmas.List.Folds.{list_any-append}
use Rattle.sdp_formats_section_rows.specs.TypeLists.{is_listed, types_meant, with_type}
use Rattle.sdp_formats_section_rows.specs.declared.mapped.Mapping.{Mapping}

-- after a list is the type that was put there
one_more : (types : List ℕ) (t p : ℕ) → is_listed (types ++ t ∷ []) p ≡ (is_listed types p || t == p)
one_more types t p =
    list_any-append (λ x. x == p) types (t ∷ []) ∙ ap (λ b. is_listed types p || b) (or-false (t == p))

-- a type that is on the list already adds nothing
same_list : (types : List ℕ) (t p : ℕ) → is_listed types t ≡ true → is_listed types p ≡ (is_listed types p || t == p)
same_list types t p e = at (t == p) refl
  where
    at : (b : Bool) → (t == p) ≡ b → is_listed types p ≡ (is_listed types p || b)
    at false q = sym (or-false (is_listed types p))
    at true q =
        let on : is_listed types p ≡ true = ap (λ n. is_listed types n) (sym (eqb-true t p q)) ∙ e in
        rw on refl

type_step : (is_meant : Mapping → Bool) (types : List ℕ) (m : Mapping) (p : ℕ)
    → is_listed (with_type is_meant types m) p ≡ (is_listed types p || (m.pt == p && is_meant m))
unfolding with_type
type_step is_meant types m p = at (is_meant m) (is_listed types m.pt) refl
  where
    at : (b c : Bool) → is_listed types m.pt ≡ c
        → is_listed (if b then (if c then types else types ++ m.pt ∷ []) else types) p
        ≡ (is_listed types p || (m.pt == p && b))
    at false c e = sym (or-false (is_listed types p)) ∙ ap (λ b. is_listed types p || b) (sym (and-false (m.pt == p)))
    at true true e =
        same_list types m.pt p e ∙ ap (λ b. is_listed types p || b) (sym (and-true (m.pt == p)))
    at true false e =
        one_more types m.pt p ∙ ap (λ b. is_listed types p || b) (sym (and-true (m.pt == p)))

types_from : (is_meant : Mapping → Bool) (types : List ℕ) (maps : List Mapping) (p : ℕ)
    → is_listed (fold (with_type is_meant) types maps) p
    ≡ (is_listed types p || list_any (λ m. m.pt == p && is_meant m) maps)
types_from is_meant types [] p = sym (or-false (is_listed types p))
types_from is_meant types (m ∷ maps) p =
    types_from is_meant (with_type is_meant types m) maps p
    ∙ ap (λ b. b || list_any (λ x. x.pt == p && is_meant x) maps) (type_step is_meant types m p)
    ∙ or_assoc (is_listed types p) (m.pt == p && is_meant m) (list_any (λ x. x.pt == p && is_meant x) maps)

-- the list has just the types of the mappings that are meant
pub types_known : (is_meant : Mapping → Bool) (maps : List Mapping) (p : ℕ)
    → is_listed (types_meant is_meant maps) p ≡ list_any (λ m. m.pt == p && is_meant m) maps
types_known is_meant maps p = types_from is_meant [] maps p

-- A set with one name more, which is before the others.
use Rattle.std.proofs.Common.{◌≡◌, ◌∙◌, ℕ, ◌-◌, ◌<◌, Bool, true, cond, not, false, ◌||◌, ◌&&◌, List, ◌∷◌, BTreeSet, Bor}
use Rattle.std.proofs.Common.{ap, arith, drop, drop-cons, get_or, length, nat_cmp, refl, suc, sym, subst, is_eq}
use Rattle.std.specs.BTreeMap.{is_at}
use Rattle.std.specs.BTreeSet.{contains}
use Rattle.std.specs.Cmp.Lexicographic.{nat_list_eq_equiv, slice_cmp, texts_ties}
use Rattle.std.specs.List.{list_any}
use Rattle.sdp_formats_data.specs.WholeTexts.{is_name}
use Rattle.sdp_formats_data.specs.NameSets.{IsSetOf, name_cmp}

in_front : (a b : Bool) → cond a true b ≡ (a || b)
in_front true b = refl
in_front false b = refl

ties : (a b : List ℕ) → is_eq (slice_cmp nat_cmp a b) ≡ is_name b a
ties a b = sym (texts_ties a b) ∙ nat_list_eq_equiv.symm a b

before : (names : List (List ℕ)) (place : ℕ) (name : List ℕ) → 0 < place → place - 1 < length names
    → name ≡ get_or names (place - 1) name → drop (place - 1) names ≡ name ∷ drop place names
before names place name some within is =
    let one : suc (place - 1) ≡ place = omega arith in
    drop-cons names (place - 1) name within
    ∙ (λ i. sym is i ∷ drop (one i) names)

turn : (a b : Bool) → (a && b) ≡ (b && a)
turn true true = refl
turn true false = refl
turn false true = refl
turn false false = refl

module _ (key : Bor (List ℕ)) (old new : BTreeSet (Bor (List ℕ))) (apart added : Bool)
    (asked : added ≡ not (contains name_cmp old key))
    (updates : (q : Bor (List ℕ))
    → contains name_cmp new q ≡ cond (is_at (name_cmp key) q) true (contains name_cmp old q)) where
  with_name : (name : List ℕ) (rest : List (List ℕ)) → key.now ≡ name → IsSetOf rest old apart
      → IsSetOf (name ∷ rest) new (apart && added)
  with_name name rest e is = record {
    has = λ q. updates q
        ∙ (λ i. cond (is_eq (slice_cmp nat_cmp (e i) q.now)) true (is.has q i))
        ∙ in_front (is_eq (slice_cmp nat_cmp name q.now)) (list_any (is_name q.now) rest)
        ∙ ap (λ (b : Bool). b || list_any (is_name q.now) rest) (ties name q.now);
    told = turn apart added
        ∙ ap (λ (b : Bool). b && apart)
        (asked ∙ ap not (is.has key) ∙ ap (λ (n : List ℕ). not (list_any (is_name n) rest)) e)
        ∙ ap (λ (b : Bool). not (list_any (is_name name) rest) && b) is.told;
  }

  pub one_name : (names : List (List ℕ)) (place : ℕ) (name : List ℕ) → 0 < place → place - 1 < length names
      → name ≡ get_or names (place - 1) name → key.now ≡ name → IsSetOf (drop place names) old apart
      → IsSetOf (drop (place - 1) names) new (apart && added)
  one_name names place name some within is e set =
      subst (λ (ns : List (List ℕ)). IsSetOf ns new (apart && added)) (sym (before names place name some within is))
      (with_name name (drop place names) e set)

-- The names of sections as a set, with one more.
use Rattle.std.proofs.Common.{◌≡◌, ◌∙◌, ℕ, ◌+◌, ◌<◌, Bool, true, false, cond, not, ◌||◌, List, ◌∷◌, BTreeSet, Bor, take}
use Rattle.std.proofs.Common.{[], ◌++◌, ◌&&◌, ap, arith, drop, drop-cons, get_or, is_eq, length, nat_cmp, refl, suc}
use Rattle.std.proofs.Common.{sym}
use Rattle.std.proofs.Math.Seq.{take-suc}
use Rattle.std.proofs.lemmas.Bool.{not-true}
use Rattle.std.proofs.lemmas.List.Folds.{list_any_more}
use Rattle.std.specs.BTreeMap.{is_at}
use Rattle.std.specs.BTreeSet.{contains}
use Rattle.std.specs.Cmp.Lexicographic.{slice_cmp, texts_ties}
use Rattle.std.specs.List.{list_any}
use Rattle.std.specs.Str.{bytes_eq}
use Rattle.std.specs.declared.cmp.Ordering.{Ordering}
use Rattle.rtp_media_sections.specs.Sections.{Wanted, are_distinct, has_mid}

abbrev pub name_cmp : Bor (List ℕ) → Bor (List ℕ) → Ordering
name_cmp a b = slice_cmp nat_cmp a.now b.now

-- the set has the names of these sections and no others
abbrev pub IsSetOf : List Wanted → BTreeSet (Bor (List ℕ)) → Type 0
IsSetOf sections set = (name : Bor (List ℕ)) → contains name_cmp set name ≡ list_any (has_mid name.now) sections

behind : (a b : Bool) → cond a true b ≡ (b || a)
behind true true = refl
behind true false = refl
behind false true = refl
behind false false = refl

module _ (key : Bor (List ℕ)) (old new : BTreeSet (Bor (List ℕ)))
    (updates : (q : Bor (List ℕ))
    → contains name_cmp new q ≡ cond (is_at (name_cmp key) q) true (contains name_cmp old q)) where
  pub one_more : (sections : List Wanted) (place : ℕ) (section : Wanted) → place < length sections
      → section ≡ get_or sections place section → key.now ≡ section.mid → IsSetOf (take place sections) old
      → IsSetOf (take (place + 1) sections) new
  one_more sections place section within is named set q =
      updates q
      ∙ (λ i. cond (is_eq (slice_cmp nat_cmp (named i) q.now)) true (set q i))
      ∙ ap (λ (b : Bool). cond b true (list_any (has_mid q.now) (take place sections)))
      (sym (texts_ties section.mid q.now))
      ∙ behind (bytes_eq section.mid q.now) (list_any (has_mid q.now) (take place sections))
      ∙ ap (λ (s : Wanted). list_any (has_mid q.now) (take place sections) || bytes_eq s.mid q.now) is
      ∙ sym (list_any_more (has_mid q.now) sections place section within)

-- a name that was not in the set leaves it to the rest whether all are distinct
pub still_distinct : (key : Bor (List ℕ)) (old : BTreeSet (Bor (List ℕ))) (added : Bool)
    → added ≡ not (contains name_cmp old key) → added ≡ true → (sections : List Wanted) (place : ℕ) (section : Wanted)
    → place < length sections → section ≡ get_or sections place section → key.now ≡ section.mid
    → IsSetOf (take place sections) old → (all : Bool) → are_distinct (take place sections) (drop place sections) ≡ all
    → are_distinct (take (place + 1) sections) (drop (place + 1) sections) ≡ all
still_distinct key old added asked new sections place section within is named set all e =
    let more : place + 1 ≡ suc place = omega arith in
    let seen : list_any (has_mid section.mid) (take place sections) ≡ false
    = sym (ap (λ (name : List ℕ). list_any (has_mid name) (take place sections)) named) ∙ sym (set key)
    ∙ not-true (contains name_cmp old key) (sym asked ∙ new) in
    ap (λ (n : ℕ). are_distinct (take n sections) (drop n sections)) more
    ∙ ap (λ (t : List Wanted). are_distinct t (drop (suc place) sections)) (take-suc sections place section within)
    ∙ ap (λ (s : Wanted). are_distinct (take place sections ++ s ∷ []) (drop (suc place) sections)) (sym is)
    ∙ ap (λ (b : Bool). not b && are_distinct (take place sections ++ section ∷ []) (drop (suc place) sections))
    (sym seen)
    ∙ ap (λ (s : Wanted). are_distinct (take place sections) (s ∷ drop (suc place) sections)) is
    ∙ ap (λ (d : List Wanted). are_distinct (take place sections) d) (sym (drop-cons sections place section within))
    ∙ e

-- The mids of sections, as a set.
use Rattle.std.specs.Prelude.{◌≡◌, ℕ, Bool, List}
use Rattle.std.specs.BTreeSet.{BTreeSet, contains}
use Rattle.std.specs.Borrow.{Bor}
use Rattle.std.specs.Cmp.Lexicographic.{slice_cmp}
use Rattle.std.specs.List.{list_any}
use Rattle.std.specs.Ordering.{nat_cmp}
use Rattle.std.specs.declared.cmp.Ordering.{Ordering}
use Rattle.sdp_formats_data.specs.WholeTexts.{are_apart, is_name}

abbrev pub name_cmp : Bor (List ℕ) → Bor (List ℕ) → Ordering
name_cmp a b = slice_cmp nat_cmp a.now b.now

-- The set has exactly these mids, and the flag says whether they are distinct.
pub record IsSetOf (names : List (List ℕ)) (set : BTreeSet (Bor (List ℕ))) (apart : Bool) : Type 0 where
  pub has : (name : Bor (List ℕ)) → contains name_cmp set name ≡ list_any (is_name name.now) names
  pub told : apart ≡ are_apart names

-- Members of a list, by what each of them has, and members that are distinct.
use Rattle.std.proofs.Common.{◌≡◌, inl, inr, List, [], ◌∷◌, ◌++◌, map, refl, sym, ap}
use Rattle.sdp_formats_laws.proofs.EachOnce.{in_back}
use Rattle.sdp_formats_laws.specs.EachOnce.{AreDistinct}
use Rattle.sdp_formats_rounds.specs.Members.{IsIn}

module _ {A B : Type 0} (part : A → B) where
  -- what a member has is among what the members have
  pub part_in : (x : A) (xs : List A) → IsIn x xs → IsIn (part x) (map part xs)
  part_in x [] i = absurd i
  part_in x (y ∷ ys) (inl e) = inl (ap part e)
  part_in x (y ∷ ys) (inr i) = inr (part_in x ys i)

  -- what is among these, some member has
  pub member_with : (y : B) (xs : List A) → IsIn y (map part xs) → (x : A) × IsIn x xs × (part x ≡ y)
  member_with y [] i = absurd i
  member_with y (x ∷ xs) (inl e) = (x, inl refl, e)
  member_with y (x ∷ xs) (inr i) = let r = member_with y xs i in (r.0, inr r.1, r.2)

-- a member of a list without repeats isn't among those before it
pub not_before : {A : Type 0} (x : A) (front back : List A) → AreDistinct (front ++ x ∷ back) → IsIn x front → ⊥
not_before x [] back d i = i
not_before x (y ∷ ys) back d (inl e) = d.0 (in_back y ys (x ∷ back) (inl (sym e)))
not_before x (y ∷ ys) back d (inr i) = not_before x ys back d.1 i

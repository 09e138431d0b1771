-- What is read of lists.
use Rattle.std.proofs.Common.{◌≡◌, ◌⊎◌, inl, inr, if◌then◌else◌}
use Rattle.std.specs.Prelude.{Result, Ok, Err, is_ok}

-- the two outcomes of what may fail
pub either : {A E X : Type 0} (r : Result A E) (x y z : X) → z ≡ (if is_ok r then x else y) → (z ≡ x) ⊎ (z ≡ y)
either (Ok a) x y z e = inl e
either (Err a) x y z e = inr e

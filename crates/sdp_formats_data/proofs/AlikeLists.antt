-- Lists whose values are compared exactly are compared exactly.
use Rattle.std.specs.Prelude.{◌≡◌, ◌↔◌, Bool, IsTrue, List}
use Rattle.std.specs.Cmp.Lexicographic.{pointwise, pointwise_decides}

pub alike_lists : {A : Type 0} (eq : A → A → Bool) → ((a b : A) → IsTrue (eq a b) ↔ (a ≡ b)) → (xs ys : List A)
    → IsTrue (pointwise eq xs ys) ↔ (xs ≡ ys)
alike_lists eq law xs ys = pointwise_decides law xs ys

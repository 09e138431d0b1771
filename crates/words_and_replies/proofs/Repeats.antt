-- Bytes that are there so often.
use Rattle.std.proofs.Common.{◌≡◌, ℕ, suc, ◌+◌, ◌-◌, ◌<◌, List, ◌++◌, sym, ◌∙◌, ap, arith}
use Rattle.std.specs.List.{repeat}
use Rattle.std.proofs.lemmas.List.{append_assoc}

-- one repeat more
repeat-step : {A : Type 0} (n k : ℕ) (xs : List A) → k < n → repeat (n - k) xs ≡ xs ++ repeat (n - (k + 1)) xs
repeat-step n k xs lt = let more : n - k ≡ suc (n - (k + 1)) = omega arith in ap (λ m. repeat m xs) more

-- what is there and the repeats that are left, after one repeat more
pub repeated-more : {A : Type 0} (n k : ℕ) (before after xs : List A) → k < n → after ≡ before ++ xs
    → before ++ repeat (n - k) xs ≡ repeat n xs → after ++ repeat (n - (k + 1)) xs ≡ repeat n xs
repeated-more n k before after xs lt e held =
    ap (λ t. t ++ repeat (n - (k + 1)) xs) e
    ∙ append_assoc before xs (repeat (n - (k + 1)) xs)
    ∙ ap (λ t. before ++ t) (sym (repeat-step n k xs lt))
    ∙ held

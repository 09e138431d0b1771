use Rattle.std.specs.Prelude.{ℕ, ◌≡◌, ◌≤◌, List, ◌++◌, length, drop}

-- The bytes start with the text; after it, they are unchanged.
pub record IsWritten (text before bytes : List ℕ) : Type 0 where
  pub is : bytes ≡ text ++ drop (length text) before
  pub fits : length text ≤ length before

-- The first word of a line.
use Rattle.std.specs.Prelude.{ℕ, ◌==◌, List}
use Rattle.std.specs.List.{before_first, after_first}

-- What is before the first blank, or all if there is none.
abbrev pub first_word : List ℕ → List ℕ
first_word text = before_first (λ b. b == 32) text

-- What follows it, or nothing if there is none.
abbrev pub behind_first : List ℕ → List ℕ
behind_first text = after_first (λ b. b == 32) text

-- What is said of one source.
use Rattle.std.specs.Prelude.{ℕ, ◌==◌, List, Option, Some, None, if◌then◌else◌}
use Rattle.std.specs.Borrow.{Bor}

-- The word for this source, if the item is about it.
abbrev pub word_of : ℕ → Option (ℕ × Bor (List ℕ)) → Option (List ℕ)
word_of source None = None
word_of source (Some said) = if said.0 == source then Some said.1.now else None

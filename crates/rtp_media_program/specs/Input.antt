-- The lines of an input.
use Rattle.std.specs.Prelude.{◌≡◌, ℕ, ◌==◌, false, nat_le, if◌then◌else◌, List, [], ◌∷◌, ◌++◌, length, map, Option}
use Rattle.std.specs.Prelude.{None, Some}
use Rattle.std.specs.List.{slice_split}

-- The pieces, except an empty last one.
abbrev pub without_empty_last : List (List ℕ) → List (List ℕ)
without_empty_last [] = []
without_empty_last (last ∷ []) = if length last == 0 then [] else last ∷ []
without_empty_last (piece ∷ next ∷ pieces) = piece ∷ without_empty_last (next ∷ pieces)

-- A line of at most 1,048,576 bytes, or None for a longer one.
abbrev pub kept : List ℕ → Option (List ℕ)
kept line = if nat_le (length line) 1048576 then Some line else None

-- The input split at line feeds; the end of input also ends a line.
unfoldable pub lines_of : List ℕ → List (Option (List ℕ))
lines_of input = map kept (without_empty_last (slice_split (λ byte. byte == 10) input))

-- A line and its line feed.
abbrev pub with_feed : List ℕ → List ℕ
with_feed line = line ++ 10 ∷ []

-- The bytes contain no line feed.
abbrev pub HasNoFeed : List ℕ → Type 0
HasNoFeed [] = Unit {0}
HasNoFeed (byte ∷ bytes) = ((byte == 10) ≡ false) × HasNoFeed bytes

-- A line that is kept, with one more byte.
abbrev pub longer : Option (List ℕ) → ℕ → Option (List ℕ)
longer None byte = None
longer (Some line) byte = kept (line ++ byte ∷ [])

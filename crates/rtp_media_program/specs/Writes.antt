-- How many of the bytes a writer has taken.
use Rattle.std.specs.Prelude.{◌≡◌, ℕ, ◌<◌, List, ◌++◌, length, Option}
use Rattle.std.specs.Io.KnownBytes.{Appends}

-- The bytes written so far grow by those before the rest.
abbrev pub LeavesRest : Option (List ℕ) → Option (List ℕ) → List ℕ → List ℕ → Type 0
LeavesRest old new bytes rest = (sent : List ℕ) × (bytes ≡ sent ++ rest) × Appends old new sent

-- The bytes written so far grow by a prefix of these bytes, and some are left.
abbrev pub AppendsFront : Option (List ℕ) → Option (List ℕ) → List ℕ → Type 0
AppendsFront old new bytes = (rest : List ℕ) × (0 < length rest) × LeavesRest old new bytes rest

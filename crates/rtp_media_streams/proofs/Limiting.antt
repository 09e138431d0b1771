-- Streams within a limit of bytes.
use Rattle.std.proofs.Common.{◌≡◌, None, Some, false, refl, ℕ}
use Rattle.std.specs.Prelude.{Option, is_some}
use mathlib.Core.Bool.{false≢true}

-- an option that has no value
pub none-there : (o : Option ℕ) → false ≡ is_some o → o ≡ None
none-there None e = refl
none-there (Some n) e = absurd (false≢true e)

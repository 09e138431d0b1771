-- Copying into a caller's buffer.
use Rattle.std.specs.Prelude.{ℕ, ◌≡◌, ◌≢◌, ◌++◌, List, length, drop, nat_lt, if◌then◌else◌, Option, Some, None}
use Rattle.jilqamur.specs.Codes.{ok, too_small, nothing}

-- What copying bytes into a buffer answers.
abbrev pub copy_outcome : List ℕ → List ℕ → ℕ
copy_outcome bytes buffer = if nat_lt (length buffer) (length bytes) then too_small else ok

-- The bytes are copied to the front of the buffer; a buffer that is too small doesn't change.
pub record IsCopied (bytes before : List ℕ) (result needed : ℕ) (buffer : List ℕ) : Type 0 where
  pub outcome : result ≡ copy_outcome bytes before
  pub needed_is : needed ≡ length bytes
  pub written : result ≡ ok → buffer ≡ bytes ++ drop (length bytes) before
  pub kept : result ≢ ok → buffer ≡ before

-- Bytes that are there are copied.
abbrev pub IsFetched : Option (List ℕ) → List ℕ → ℕ → ℕ → List ℕ → Type 0
IsFetched None before result needed buffer = (result ≡ nothing) × (buffer ≡ before)
IsFetched (Some bytes) before result needed buffer = IsCopied bytes before result needed buffer

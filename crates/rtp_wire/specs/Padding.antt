use Rattle.std.specs.Prelude.{ℕ, ◌≡◌, ◌<◌, ◌-◌, Bool, true, false, ◌==◌, ◌||◌, nat_lt, if◌then◌else◌, List, ◌++◌}
use Rattle.std.specs.Prelude.{length, take, slice_index, Option, Some, None}

-- The payload before `count` padding bytes (at least one).
abbrev pub without : ℕ → List ℕ → Option (List ℕ)
without count payload =
    if (count == 0) || nat_lt (length payload) count then None
    else Some (take (length payload - count) payload)

-- The payload without its padding: the last byte counts the padding bytes, itself included (RFC 3550 5.1).
abbrev pub unpadded : Bool → List ℕ → Option (List ℕ)
unpadded false payload = Some payload
unpadded true payload = without (slice_index payload (length payload - 1)) payload

-- Padding: at least one byte, and the last one is the count (RFC 3550 5.1).
pub record IsPadding (padding : List ℕ) : Type 0 where
  pub some_byte : 0 < length padding
  pub counted : slice_index padding (length padding - 1) ≡ length padding

-- The payload is these bytes followed by padding.
abbrev pub IsPadded : List ℕ → List ℕ → Type 0
IsPadded payload body = (padding : List ℕ) × (payload ≡ body ++ padding) × IsPadding padding

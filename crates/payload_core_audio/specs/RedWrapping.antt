-- Which payloads are repeated beside a new one (RFC 2198).
use Rattle.std.specs.Prelude.{◌≡◌, ℕ, ◌+◌, ◌-◌, ◌%◌, ◌^◌, ◌<◌, ◌≤◌, List, ◌++◌, Option, filter, filter_map, length}
use Rattle.std.specs.Prelude.{map, option_map, reverse, slice_get, sum_by, take}
use Rattle.payload_core_audio.specs.Red.{Block, IsRed}
use Rattle.payload_core_audio.specs.RedHistory.{Kept, Redundancy}
use Rattle.payload_core_audio.specs.RedSending.{fits, masked}

-- A kept payload as a block of a newer one with this timestamp; the offset is the difference modulo 2^32.
abbrev pub beside : ℕ → Kept → Block
beside time k = record { pt = k.pt; timestamp_offset = (time + (2 ^ 32 - k.time)) % 2 ^ 32; payload = k.payload }

-- The block at a distance: the payload wrapped that many calls ago, if there is one.
abbrev pub level : List Kept → ℕ → ℕ → Option Block
level history time distance = option_map (beside time) (slice_get history (distance - 1))

-- The available blocks that fit their headers, nearest first.
abbrev pub levels : List Kept → List ℕ → ℕ → List Block
levels history distances time = filter fits (filter_map (level history time) distances)

-- The size of the blocks: four bytes for each header, and the payloads.
abbrev pub bytes_of : List Block → ℕ
bytes_of blocks = sum_by (λ b. 4 + length b.payload) blocks

-- With the first n blocks, one byte and a primary payload of this size are within the budget; with more blocks they
-- would not be.
pub record IsLongestPrefix (budget size : ℕ) (blocks : List Block) (n : ℕ) : Type 0 where
  pub existing : n ≤ length blocks
  pub within : 1 + bytes_of (take n blocks) + size ≤ budget
  pub longest : (m : ℕ) → n < m → m ≤ length blocks → budget < 1 + bytes_of (take m blocks) + size

-- The packet consists of the longest prefix of the available blocks, oldest first, and the primary payload.
pub record IsWrapped (r : Redundancy) (pt : ℕ) (payload : List ℕ) (time budget : ℕ) (packet : List ℕ) : Type 0 where
  pub count : ℕ
  pub longest : IsLongestPrefix budget (length payload) (levels r.history r.distances time) count
  pub is_red : IsRed packet (map masked (reverse (take count (levels r.history r.distances time)))) (pt % 128) payload

-- What is sent for a payload: it with redundancy; or the payload alone, if even one extra byte would exceed the budget.
pub record IsWrap (r : Redundancy) (pt : ℕ) (payload : List ℕ) (time budget : ℕ) (sent : List ℕ) : Type 0 where
  pub wrapped : length payload + 1 ≤ budget → IsWrapped r pt payload time budget sent
  pub unwrapped : budget < length payload + 1 → sent ≡ payload

-- What is sent for a payload, with these bytes in front of it.
pub record IsWrapWith (prefix : List ℕ) (r : Redundancy) (pt : ℕ) (payload : List ℕ) (time budget : ℕ)
    (packet : List ℕ) : Type 0 where
  pub sent : List ℕ
  pub is_wrap : IsWrap r pt payload time budget sent
  pub packet_is : packet ≡ prefix ++ sent

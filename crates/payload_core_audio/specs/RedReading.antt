-- What a receiver gets from a RED payload (RFC 2198 3).
use Rattle.std.specs.Prelude.{◌≡◌, ℕ, zero, suc, ◌+◌, ◌*◌, ◌/◌, ◌%◌, Bool, true, false, List, [], ◌∷◌, ◌++◌, Option}
use Rattle.std.specs.Prelude.{Some, None, drop, find, if◌then◌else◌, length, map, nat_le, nat_lt, option_and_then}
use Rattle.std.specs.Prelude.{slice_index, take}
use Rattle.std.specs.List.{range_with_len}
use Rattle.payload_core_audio.specs.Red.{Block, IsRed}

-- A payload that is handed out, redundant or primary.
pub record Item : Type 0 where
  pub pt : ℕ
  pub timestamp_offset : ℕ
  pub payload : List ℕ
  pub primary : Bool

abbrev pub redundant_item : Block → Item
redundant_item b = record { pt = b.pt; timestamp_offset = b.timestamp_offset; payload = b.payload; primary = false }

abbrev pub primary_item : ℕ → List ℕ → Item
primary_item pt payload = record { pt = pt; timestamp_offset = 0; payload = payload; primary = true }

-- The redundant blocks in wire order, then the primary payload.
abbrev pub items_of : List Block → ℕ → List ℕ → List Item
items_of blocks pt primary = map redundant_item blocks ++ primary_item pt primary ∷ []

-- These are the payloads of the packet.
pub record IsReadAs (packet : List ℕ) (items : List Item) : Type 0 where
  pub blocks : List Block
  pub pt : ℕ
  pub primary : List ℕ
  pub is_red : IsRed packet blocks pt primary
  pub items_are : items ≡ items_of blocks pt primary

-- The fields of the first header: payload type, timestamp offset, length.
abbrev pub pt_at : List ℕ → ℕ
pt_at headers = slice_index headers 0 % 128

abbrev pub offset_at : List ℕ → ℕ
offset_at headers = slice_index headers 1 * 64 + slice_index headers 2 / 4

abbrev pub size_at : List ℕ → ℕ
size_at headers = slice_index headers 2 % 4 * 256 + slice_index headers 3

-- The block with the first of the headers and the first of the payloads.
abbrev pub block_at : List ℕ → List ℕ → Block
block_at headers payloads = record {
  pt = pt_at headers;
  timestamp_offset = offset_at headers;
  payload =
      take (size_at headers) payloads;
}

-- n payloads, the last of which is the primary one.
abbrev pub items_from : ℕ → List ℕ → List ℕ → List Item
items_from zero headers payloads = []
items_from (suc zero) headers payloads = primary_item (pt_at headers) payloads ∷ []
items_from (suc (suc n)) headers payloads =
    redundant_item (block_at headers payloads) ∷ items_from (suc n) (drop 4 headers) (drop (size_at headers) payloads)

-- The number of payload bytes of n blocks.
abbrev pub size_of_blocks : ℕ → List ℕ → ℕ
size_of_blocks zero headers = 0
size_of_blocks (suc n) headers = size_at headers + size_of_blocks n (drop 4 headers)

-- The number of headers before the first with F clear, if at most 32.
unfoldable pub count_of_blocks : List ℕ → Option ℕ
count_of_blocks packet = find (λ k. nat_lt (slice_index packet (4 * k)) 128) (range_with_len 0 33)

-- What a packet with n blocks hands out, unless a header or a block exceeds the packet.
abbrev pub read_blocks : List ℕ → ℕ → Option (List Item)
read_blocks packet n = if nat_le (4 * n + 1 + size_of_blocks n packet) (length packet)
    then Some (items_from (suc n) packet (drop (4 * n + 1) packet)) else None

-- What a packet hands out.
abbrev pub read_red : List ℕ → Option (List Item)
read_red packet = option_and_then (read_blocks packet) (count_of_blocks packet)

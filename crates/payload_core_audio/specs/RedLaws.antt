-- What holds of every RED payload.
use Rattle.std.specs.Prelude.{◌≡◌, ℕ, ◌+◌, ◌%◌, ◌<◌, ◌≤◌, List, Some, length, slice_index}
use Rattle.payload_core_audio.specs.Red.{Block, IsRed, spelled}
use Rattle.payload_core_audio.specs.RedHistory.{Redundancy}
use Rattle.payload_core_audio.specs.RedReading.{IsReadAs, Item, items_of, read_red}
use Rattle.payload_core_audio.specs.RedSending.{sent_blocks}
use Rattle.payload_core_audio.specs.RedWrapping.{IsWrap}

-- Every packet spelled this way is read, and gives these payloads.
abbrev pub SpelledIsRead : Type 0
SpelledIsRead = (packet : List ℕ) (blocks : List Block) (pt : ℕ) (primary : List ℕ) → IsRed packet blocks pt primary
    → read_red packet ≡ Some (items_of blocks pt primary)

-- No other sequence of bytes is read.
abbrev pub ReadIsSpelled : Type 0
ReadIsSpelled = (packet : List ℕ) (items : List Item) → ((k : ℕ) → slice_index packet k < 256) → read_red packet
    ≡ Some items → IsReadAs packet items

-- Whatever the blocks, what is packed is read as the first 32 that fit and the primary payload, with payload types cut
-- to seven bits.
abbrev pub PackedComesBack : Type 0
PackedComesBack = (blocks : List Block) (pt : ℕ) (primary : List ℕ)
    → read_red (spelled (sent_blocks blocks) (pt % 128) primary)
    ≡ Some (items_of (sent_blocks blocks) (pt % 128) primary)

-- Packing what was read gives the packet again.
abbrev pub ReadIsPackedAgain : Type 0
ReadIsPackedAgain = (packet : List ℕ) (blocks : List Block) (pt : ℕ) (primary : List ℕ)
    → IsRed packet blocks pt primary → spelled (sent_blocks blocks) (pt % 128) primary ≡ packet

-- Wrapping a payload stays within the budget.
abbrev pub WrapIsWithin : Type 0
WrapIsWithin = (r : Redundancy) (pt : ℕ) (payload : List ℕ) (time budget : ℕ) (sent : List ℕ)
    → length payload + 1 ≤ budget → IsWrap r pt payload time budget sent → length sent ≤ budget

-- Read back, it has this primary payload.
abbrev pub WrapIsRead : Type 0
WrapIsRead = (r : Redundancy) (pt : ℕ) (payload : List ℕ) (time budget : ℕ) (sent : List ℕ)
    → length payload + 1 ≤ budget → IsWrap r pt payload time budget sent → (blocks : List Block)
    × (read_red sent ≡ Some (items_of blocks (pt % 128) payload))

-- A payload has exactly one wrapping.
abbrev pub WrapIsOne : Type 0
WrapIsOne = (r : Redundancy) (pt : ℕ) (payload : List ℕ) (time budget : ℕ) (sent other : List ℕ)
    → IsWrap r pt payload time budget sent → IsWrap r pt payload time budget other → sent ≡ other

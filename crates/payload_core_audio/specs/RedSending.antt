-- RED payloads as they are sent (RFC 2198 3).
use Rattle.std.specs.Prelude.{◌%◌, ◌&&◌, Bool, List, filter, length, map, nat_le, take}
use Rattle.payload_core_audio.specs.Red.{Block}

-- The timestamp offset fits in 14 bits, and the length in 10.
abbrev pub fits : Block → Bool
fits b = nat_le b.timestamp_offset 16383 && nat_le (length b.payload) 1023

-- The block with its payload type cut to seven bits.
abbrev pub masked : Block → Block
masked b = record { pt = b.pt % 128; timestamp_offset = b.timestamp_offset; payload = b.payload }

-- The first 32 of the blocks that fit.
abbrev pub sent_blocks : List Block → List Block
sent_blocks blocks = map masked (take 32 (filter fits blocks))

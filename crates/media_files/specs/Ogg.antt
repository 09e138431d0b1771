-- Pages of Ogg (RFC 3533 6), each with one packet.
use Rattle.std.specs.Prelude.{ℕ, ◌+◌, ◌-◌, ◌*◌, ◌/◌, ◌%◌, Bool, nat_lt, List, [], ◌∷◌, ◌++◌, length, fold}
use Rattle.std.specs.Prelude.{bit_xor, codes, replicate, if◌then◌else◌}
use Rattle.media_files_captures.specs.Numbers.{u32_le, u64_le}

-- The CRC register after one more bit: polynomial 04C11DB7, most significant bit first.
unfoldable pub crc_bit : ℕ → ℕ
crc_bit c = if nat_lt c 2147483648 then 2 * c else bit_xor (2 * (c - 2147483648)) 0x04c11db7

unfoldable pub crc_half : ℕ → ℕ
crc_half c = crc_bit (crc_bit (crc_bit (crc_bit c)))

unfoldable pub crc_byte : ℕ → ℕ → ℕ
crc_byte c byte = crc_half (crc_half (bit_xor c (byte * 16777216)))

-- The CRC after more bytes; it starts at 0.
abbrev pub crc : ℕ → List ℕ → ℕ
crc c bytes = fold crc_byte c bytes

-- The page flags: first of a stream, last, both or neither.
abbrev pub flags_of : Bool → Bool → ℕ
flags_of is_first is_last = (if is_first then 2 else 0) + (if is_last then 4 else 0)

-- A page's header fields: flags, granule position, stream serial number, page sequence number.
pub record Place : Type 0 where
  pub flags : ℕ
  pub granule : ℕ
  pub serial : ℕ
  pub sequence : ℕ

-- What precedes the checksum: signature, version 0, and these fields.
unfoldable pub page_front : Place → List ℕ
page_front p = codes "OggS" ++ (0 ∷ (p.flags ∷ (u64_le p.granule ++ (u32_le p.serial ++ u32_le p.sequence))))

-- Lacing: a segment of 255 for each full 255 bytes, then one of what remains.
abbrev pub lacing : ℕ → List ℕ
lacing n = replicate (n / 255) 255 ++ (n % 255) ∷ []

-- What follows the checksum: the segment count, the segment lengths, the packet.
unfoldable pub page_end : List ℕ → List ℕ
page_end packet = (length packet / 255 + 1) ∷ (lacing (length packet) ++ packet)

-- The checksum is computed with its own field zeroed.
unfoldable pub page : Place → List ℕ → List ℕ
page p packet = page_front p
    ++ (u32_le (crc (crc (crc 0 (page_front p)) (0 ∷ (0 ∷ (0 ∷ (0 ∷ []))))) (page_end packet)) ++ page_end packet)

-- The longest packet that fits one page: 255 segments.
abbrev pub longest_packet : ℕ
longest_packet = 65024

-- Multi-byte numbers at an offset.
use Rattle.std.specs.Prelude.{ℕ, List, drop}
use Rattle.std.specs.Int.{w16, w32, w64, from_be_bytes, from_le_bytes, to_le_bytes}
use Rattle.media_files_captures.specs.declared.numbers.ByteOrder.{ByteOrder}
use Rattle.media_files_captures.specs.declared.numbers.ByteOrder.TheVariants.{Big, Little}

-- A two-byte number in network byte order (big-endian).
unfoldable pub u16_be : List ℕ → ℕ → ℕ
u16_be bytes at = from_be_bytes w16 (drop at bytes)

-- Two-, four- and eight-byte numbers in a given byte order.
unfoldable pub u16_at : ByteOrder → List ℕ → ℕ → ℕ
u16_at Big bytes at = from_be_bytes w16 (drop at bytes)
u16_at Little bytes at = from_le_bytes w16 (drop at bytes)

unfoldable pub u32_at : ByteOrder → List ℕ → ℕ → ℕ
u32_at Big bytes at = from_be_bytes w32 (drop at bytes)
u32_at Little bytes at = from_le_bytes w32 (drop at bytes)

-- Two-, four- and eight-byte numbers, little-endian.
unfoldable pub u16_le : ℕ → List ℕ
u16_le n = to_le_bytes w16 n

unfoldable pub u32_le : ℕ → List ℕ
u32_le n = to_le_bytes w32 n

unfoldable pub u64_le : ℕ → List ℕ
u64_le n = to_le_bytes w64 n

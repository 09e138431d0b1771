-- Elements of EBML (RFC 8794).
use Rattle.std.specs.Prelude.{ℕ, zero, suc, ◌+◌, ◌-◌, ◌*◌, ◌^◌, nat_le, List, ◌++◌, length, if◌then◌else◌}
use Rattle.std.specs.Int.{w16, w64, to_be_bytes}

-- Numbers of two and eight bytes, the most significant first.
unfoldable pub u16_be : ℕ → List ℕ
u16_be n = to_be_bytes w16 n

unfoldable pub u64_be : ℕ → List ℕ
u64_be n = to_be_bytes w64 n

-- An element: its ID, the length of its data, and the data. The length has eight bytes, of which the first has its last
-- bit set to say so (RFC 8794 4.4).
unfoldable pub element : List ℕ → List ℕ → List ℕ
element id bytes = id ++ (u64_be (2 ^ 56 + length bytes) ++ bytes)

-- What is in front of the data of an element.
abbrev pub element_front : List ℕ → ℕ → List ℕ
element_front id len = id ++ u64_be (2 ^ 56 + len)

-- An element that is an unsigned integer (RFC 8794 7.2).
abbrev pub uint : List ℕ → ℕ → List ℕ
uint id n = element id (u64_be n)

-- The bits of a double that is an integer (IEEE 754): doubled until it has 53 bits, of which the first isn't stored;
-- the exponent counts from 1,023, and is one lower for each doubling.
unfoldable pub bits_from : ℕ → ℕ → ℕ
bits_from zero n = 0
bits_from (suc e) n =
    if nat_le 4503599627370496 n then (1023 + e) * 4503599627370496 + (n - 4503599627370496) else bits_from e (n * 2)

abbrev pub double_bits : ℕ → ℕ
double_bits n = bits_from 53 n

-- An element that is a double (RFC 8794 7.3).
abbrev pub double : List ℕ → ℕ → List ℕ
double id n = element id (u64_be (double_bits n))

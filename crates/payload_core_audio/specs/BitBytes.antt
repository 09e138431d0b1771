-- The bytes of bit strings, built one byte at a time.
use Rattle.std.specs.Prelude.{ℕ, ◌+◌, ◌-◌, ◌*◌, ◌/◌, ◌^◌, ◌==◌, List, nat_le, nat_lt, if◌then◌else◌}
use Rattle.payload_core_audio.specs.AmrWb.{bit_of}

-- The bits of a text from an offset on.
abbrev pub bits_from : List ℕ → ℕ → ℕ → ℕ
bits_from bytes place i = bit_of bytes (place + i)

-- The first `size` bits of a bit string, followed by zeros.
abbrev pub first_bits : ℕ → (ℕ → ℕ) → ℕ → ℕ
first_bits size bit i = if nat_lt i size then bit i else 0

-- The top `count` bits of a byte, followed by zeros.
abbrev pub front_of : ℕ → ℕ → ℕ
front_of count byte = if nat_le 8 count then byte else byte / 2 ^ (8 - count) * 2 ^ (8 - count)

-- The bits of a bandwidth-efficient packet without the padding at its end.
abbrev pub endless_bit : List ℕ → ℕ → ℕ
endless_bit sample i =
    if nat_lt i 4 then 1 else (if i == 4 then 0
    else (if nat_lt i 10 then bit_of sample (i - 4) else bit_of sample (i - 2)))

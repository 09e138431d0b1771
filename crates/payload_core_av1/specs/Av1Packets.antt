-- The texts to be sent, and how the code cuts them.
use Rattle.std.specs.Prelude.{ℕ, ◌+◌, ◌<◌, List, [], ◌∷◌, ◌++◌, length, nat_lt, nat_le, Option, if◌then◌else◌}
use Rattle.payload_core_av1.specs.Av1Packing.{greatest}
use Rattle.payload_core_av1.specs.Leb128.{size_limit, spelling}
use Rattle.payload_core_av1.specs.Obus.{extension_bytes}

-- Nonempty texts whose sizes can be spelled.
abbrev pub AreTexts : List (List ℕ) → Type 0
AreTexts [] = Unit {0}
AreTexts (e ∷ es) = (0 < length e) × (length e < size_limit) × AreTexts es

-- The bytes of an element: a header byte, if it has one, then an extension byte, if it has one, then a part of the
-- payload.
abbrev pub element_bytes : Option ℕ → Option ℕ → List ℕ → List ℕ
element_bytes header extension payload = extension_bytes header ++ (extension_bytes extension ++ payload)

-- The number of bytes an element of this size takes if it is the last, at this index.
abbrev pub last_len : ℕ → ℕ → ℕ
last_len place n = if nat_lt place 3 then n else length (spelling n) + n

-- The most bytes of an element of this size that fit in the room left, at this index.
abbrev pub greatest_part : ℕ → ℕ → ℕ → ℕ
greatest_part place room size = greatest (λ n. nat_le (last_len place n) room) size

-- Sizes in leb128 (AV1 bitstream specification 4.10.5): seven bits a byte, lowest first, with the top bit set in all
-- bytes but the last; at most eight bytes.
use Rattle.std.specs.Prelude.{◌≡◌, ℕ, zero, suc, ◌+◌, ◌*◌, ◌/◌, ◌%◌, ◌<◌, ◌≤◌, List, [], ◌∷◌, length, take, drop}
use Rattle.std.specs.Prelude.{nat_lt, nat_le, Option, Some, None, if◌then◌else◌}

-- Eight bytes can spell sizes below 2^56.
abbrev pub size_limit : ℕ
size_limit = 72057594037927936

-- The value of a spelling.
abbrev pub spelled : List ℕ → ℕ
spelled [] = 0
spelled (b ∷ bs) = b % 128 + 128 * spelled bs

-- Every byte except the last has the top bit set.
abbrev pub HasTopBits : List ℕ → Type 0
HasTopBits [] = ⊥
HasTopBits (b ∷ []) = b < 128
HasTopBits (b ∷ c ∷ bs) = (128 ≤ b) × HasTopBits (c ∷ bs)

-- These bytes spell this size.
pub record Spells (bytes : List ℕ) (n : ℕ) : Type 0 where
  pub few : length bytes ≤ 8
  pub top_bits : HasTopBits bytes
  pub value : n ≡ spelled bytes

-- What a size and the bytes after its spelling are.
pub record Sized : Type 0 where
  pub size : ℕ
  pub rest : List ℕ

abbrev pub behind_byte : ℕ → Option Sized → Option Sized
behind_byte b None = None
behind_byte b (Some s) = Some (record { size = b % 128 + 128 * s.size; rest = s.rest })

-- The size that is in front of a text, in at most this many bytes.
abbrev pub size_within : ℕ → List ℕ → Option Sized
size_within zero bytes = None
size_within (suc k) [] = None
size_within (suc k) (b ∷ bs) = if nat_lt b 128 then Some (record { size = b; rest = bs })
    else behind_byte b (size_within k bs)

unfoldable pub size_in : List ℕ → Option Sized
size_in bytes = size_within 8 bytes

-- The shortest spelling, in at most k + 1 bytes.
abbrev pub spelling_within : ℕ → ℕ → List ℕ
spelling_within zero n = n ∷ []
spelling_within (suc k) n = if nat_lt n 128 then n ∷ [] else (128 + n % 128) ∷ spelling_within k (n / 128)

-- The shortest spelling of a size below the limit.
unfoldable pub spelling : ℕ → List ℕ
spelling n = spelling_within 7 n

-- A part that is in front of a text, and what follows it.
pub record Cut : Type 0 where
  pub part : List ℕ
  pub rest : List ℕ

abbrev pub cut_by : Option Sized → Option Cut
cut_by None = None
cut_by (Some s) = if nat_le s.size (length s.rest)
    then Some (record { part = take s.size s.rest; rest = drop s.size s.rest }) else None

-- The part of a text that its size field announces, if all of it is there.
abbrev pub sized_part : List ℕ → Option Cut
sized_part bytes = cut_by (size_in bytes)

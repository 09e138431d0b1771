-- Fields of headers (H.264 7.2 and 9.1, AV1 bitstream specification 4.10).
use Rattle.std.specs.Prelude.{ℕ, zero, suc, ◌+◌, ◌-◌, ◌*◌, ◌/◌, ◌%◌, ◌==◌, Bool, nat_le, nat_lt, List, [], ◌∷◌, length}
use Rattle.std.specs.Prelude.{take, drop, fold, Option, None, Some, option_map, option_and_then, if◌then◌else◌}
use Rattle.std.specs.List.{flat_map}

-- The bits of a byte, and of bytes, the most significant first.
abbrev pub byte_bits : ℕ → List ℕ
byte_bits b = b / 128 % 2 ∷ (b / 64 % 2 ∷ (b / 32 % 2 ∷ (b / 16 % 2 ∷ (b / 8 % 2 ∷ (b / 4 % 2 ∷ (b / 2 % 2
    ∷ (b % 2 ∷ [])))))))

unfoldable pub bits : List ℕ → List ℕ
bits bytes = flat_map byte_bits bytes

-- What is read in front of bits, and the bits that follow. None if they end before.
pub record Read (A : Type 0) : Type 0 where
  pub value : A
  pub rest : List ℕ

abbrev pub read : {A : Type 0} → A → List ℕ → Read A
read value rest = record { value = value; rest = rest }

abbrev pub gives : {A : Type 0} → Option A → List ℕ → Option (Read A)
gives found rest = option_map (λ value. read value rest) found

-- One after another.
infixl 10 ◌>>=◌
abbrev pub ◌>>=◌ : {A B : Type 0} → (List ℕ → Option (Read A)) → (A → List ℕ → Option (Read B)) → List ℕ
    → Option (Read B)
(first >>= next) bs = option_and_then (λ r. next r.value r.rest) (first bs)

abbrev pub done : {A : Type 0} → A → List ℕ → Option (Read A)
done value bs = Some (read value bs)

-- The number of bits, the most significant first.
unfoldable pub number : List ℕ → ℕ
number bs = fold (λ n b. 2 * n + b) 0 bs

-- u(n): an unsigned number of n bits (H.264 7.2).
unfoldable pub u : ℕ → List ℕ → Option (Read ℕ)
u n bs = if nat_le n (length bs) then Some (read (number (take n bs)) (drop n bs)) else None

-- Bits that are passed over.
unfoldable pub pass : ℕ → List ℕ → Option (Read (Unit {0}))
pass n bs = if nat_le n (length bs) then Some (read tt (drop n bs)) else None

-- The same thing n times.
unfoldable pub times : ℕ → (List ℕ → Option (Read (Unit {0}))) → List ℕ → Option (Read (Unit {0}))
times zero p bs = Some (read tt bs)
times (suc n) p bs = (p >>= λ _. times n p) bs

-- What is there only if something holds.
abbrev pub when : Bool → (List ℕ → Option (Read (Unit {0}))) → List ℕ → Option (Read (Unit {0}))
when holds p bs = if holds then p bs else Some (read tt bs)

-- A field of n bits that must have this value.
unfoldable pub only : ℕ → ℕ → List ℕ → Option (Read (Unit {0}))
only n value = u n >>= λ found. if found == value then done tt else gives None

-- How many bits 0 are in front of the first bit 1.
unfoldable pub zeros : List ℕ → ℕ
zeros [] = 0
zeros (b ∷ bs) = if b == 0 then zeros bs + 1 else 0

-- ue(v): an Exp-Golomb code (H.264 9.1): bits 0, at most 31; a bit 1; and as many bits as there are bits 0. The bit 1
-- and those that follow are a number, which is one more than the code's.
unfoldable pub ue : List ℕ → Option (Read ℕ)
ue bs = if nat_lt 31 (zeros bs) then None else
    option_map (λ r. read (r.value - 1) r.rest) (u (zeros bs + 1) (drop (zeros bs) bs))

-- A flag: a bit.
abbrev pub flag : List ℕ → Option (Read Bool)
flag bs = (u 1 >>= λ bit. done (bit == 1)) bs

-- A code that is passed over.
abbrev pub pass_code : List ℕ → Option (Read (Unit {0}))
pass_code bs = (ue >>= λ code. done tt) bs

-- What is read, without the bits that follow.
abbrev pub value_of : {A : Type 0} → Option (Read A) → Option A
value_of found = option_map (λ r. r.value) found

-- Attributes passed.
use Rattle.std.proofs.Common.{◌≡◌, ℕ, suc, ◌+◌, ◌-◌, ◌<◌, ◌≤◌, ◌==◌, List, length, take, drop, true, false, refl}
use Rattle.std.proofs.Common.{arith, nat_lt, Some}
use Rattle.media_files_captures.specs.Numbers.{u16_be}
use Rattle.media_files_captures.specs.Pcapng.{padded}
use Rattle.media_files_captures.specs.Turn.{data_attribute}

-- an attribute passed
pub data_attribute-more : (most i : ℕ) (bytes : List ℕ) → i < most → 4 ≤ length bytes
    → 4 + padded (u16_be bytes 2) ≤ length bytes → (u16_be bytes 0 ≡ 19 → ⊥)
    → data_attribute (most - i) bytes
    ≡ data_attribute (most - (i + 1)) (drop (4 + padded (u16_be bytes 2)) bytes)
unfolding data_attribute
data_attribute-more most i bytes below room whole other =
    let one : most - i ≡ suc (most - (i + 1)) = omega arith in
    let a : nat_lt (length bytes) 4 ≡ false = grind arith in
    let b : nat_lt (length bytes) (4 + padded (u16_be bytes 2)) ≡ false = grind arith in
    let d : (u16_be bytes 0 == 19) ≡ false = grind arith in
    rw (one, a, b, d) refl

-- the attribute that is sought
pub data_attribute-found : (most i : ℕ) (bytes : List ℕ) → i < most → 4 ≤ length bytes
    → 4 + padded (u16_be bytes 2) ≤ length bytes → u16_be bytes 0 ≡ 19
    → data_attribute (most - i) bytes ≡ Some (take (u16_be bytes 2) (drop 4 bytes))
unfolding data_attribute
data_attribute-found most i bytes below room whole same =
    let one : most - i ≡ suc (most - (i + 1)) = omega arith in
    let a : nat_lt (length bytes) 4 ≡ false = grind arith in
    let b : nat_lt (length bytes) (4 + padded (u16_be bytes 2)) ≡ false = grind arith in
    let d : (u16_be bytes 0 == 19) ≡ true = grind arith in
    rw (one, a, b, d) refl

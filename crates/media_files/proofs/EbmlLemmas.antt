-- Doubling.
use Rattle.std.proofs.Common.{◌≡◌, ℕ, suc, zero, ◌+◌, ◌-◌, ◌*◌, ◌<◌, ◌≤◌, true, false, nat_le, refl, arith}
use Rattle.media_files.specs.Ebml.{bits_from}

-- a number of 53 bits has its exponent, and a smaller one is doubled once more
pub bits_from-found : (i n : ℕ) → i < 53 → 4503599627370496 ≤ n
    → bits_from (53 - i) n ≡ (1023 + (52 - i)) * 4503599627370496 + (n - 4503599627370496)
unfolding bits_from
bits_from-found i n below whole =
    let one : 53 - i ≡ suc (52 - i) = omega arith in
    let is_whole : nat_le 4503599627370496 n ≡ true = grind (arith, whole) in
    rw (one, is_whole) refl

pub bits_from-more : (i n : ℕ) → i < 53 → n < 4503599627370496
    → bits_from (53 - i) n ≡ bits_from (53 - (i + 1)) (n * 2)
unfolding bits_from
bits_from-more i n below small =
    let one : 53 - i ≡ suc (53 - (i + 1)) = omega arith in
    let is_small : nat_le 4503599627370496 n ≡ false = grind (arith, small) in
    rw (one, is_small) refl

pub bits_from-none : (n : ℕ) → bits_from zero n ≡ 0
unfolding bits_from
bits_from-none n = refl

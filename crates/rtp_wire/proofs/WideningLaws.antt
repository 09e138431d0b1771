-- The widened number is the nearest, and the true one if that is near.
use Rattle.std.proofs.Common.{◌≡◌, ℕ, ◌+◌, ◌-◌, ◌%◌, ◌^◌, ◌<◌, ◌≤◌, true, false, arith, inl, inr}
use Rattle.std.specs.Prelude.{Some, nat_lt, ◌⊎◌}
use Rattle.std.proofs.lemmas.Bool.Decides.{nat_tests}
use Rattle.rtp_wire.specs.Widening.{widened, widened_of, IsNearestOf}

nat_lt-no : (a b : ℕ) → b ≤ a → nat_lt a b ≡ false
nat_lt-no a b h = grind (arith, nat_tests)

nat_lt-yes : (a b : ℕ) → a < b → nat_lt a b ≡ true
nat_lt-yes a b h = grind (arith, nat_tests)

-- going round once changes nothing
mod_round : (y : ℕ) → y < 2 ^ 64 → (y + 2 ^ 64) % 2 ^ 64 ≡ y
mod_round y h = omega arith

mod_low : (y : ℕ) → y < 2 ^ 64 → y % 2 ^ 64 ≡ y
mod_low y h = omega arith

either : (a b : ℕ) → (a < b) ⊎ (b ≤ a)
either a b = grind (arith, nat_tests)

-- Less than half the range from the previous number, the low bits give the number back.
pub widened7-near : (g x : ℕ) → x < g + 64 → g < x + 64 → g < 2 ^ 64 → x < 2 ^ 64 → widened_of 64 (Some g) (x % 128) ≡ x
widened7-near g x a b c d = grind (arith, nat_tests, mod_round, mod_low)

pub widened8-near : (g x : ℕ) → x < g + 128 → g < x + 128 → g < 2 ^ 64 → x < 2 ^ 64
    → widened_of 128 (Some g) (x % 256) ≡ x
widened8-near g x a b c d = grind (arith, nat_tests, mod_round, mod_low)

pub widened15-near : (g x : ℕ) → x < g + 16384 → g < x + 16384 → g < 2 ^ 64 → x < 2 ^ 64
    → widened_of 16384 (Some g) (x % 32768) ≡ x
widened15-near g x a b c d = grind (arith, nat_tests, mod_round, mod_low)

pub widened16-near : (g x : ℕ) → x < g + 32768 → g < x + 32768 → g < 2 ^ 64 → x < 2 ^ 64
    → widened (Some g) (x % 65536) ≡ x
widened16-near g x a b c d = grind (arith, nat_tests, mod_round, mod_low)

pub widened32-near : (g x : ℕ) → x < g + 2147483648 → g < x + 2147483648 → g < 2 ^ 64 → x < 2 ^ 64
    → widened_of 2147483648 (Some g) (x % 4294967296) ≡ x
widened32-near g x a b c d = grind (arith, nat_tests, mod_round, mod_low)

-- The same for numbers below 2^62.
pub widened-near : (g x : ℕ) → x < g + 32768 → g < x + 32768 → x < 2 ^ 62 → widened (Some g) (x % 65536) ≡ x
widened-near g x a b c = widened16-near g x a b (omega arith) (omega arith)

-- 7 bits: each of the three ways to be nearest
near7-lower : (g low : ℕ) → g < 2 ^ 64 → low < 128 → g % 128 + 64 < low
    → IsNearestOf 64 g low ((g - g % 128 + low + (2 ^ 64 - 128)) % 2 ^ 64)
near7-lower g low a b h = record { fits = omega arith; same_low = omega arith; near = inr (inl (omega arith)) }

near7-upper : (g low : ℕ) → g < 2 ^ 64 → low < 128 → low + 64 < g % 128
    → IsNearestOf 64 g low ((g - g % 128 + low + 128) % 2 ^ 64)
near7-upper g low a b h = record { fits = omega arith; same_low = omega arith; near = inl (omega arith) }

near7-same : (g low : ℕ) → g < 2 ^ 64 → low < 128 → low ≤ g % 128 + 64 → g % 128 ≤ low + 64
    → IsNearestOf 64 g low ((g - g % 128 + low) % 2 ^ 64)
near7-same g low a b h k = record {
  fits = omega arith;
  same_low = omega arith;
  near = elim (either low (g % 128)) [
    | inl below ↦ elim (either (g % 128) (low + 64))
        [ inl near ↦ inr (inl (omega arith)) | inr tie ↦ inr (inr (omega arith, inr (omega arith))) ]
    | inr above ↦ elim (either low (g % 128 + 64))
        [ inl near ↦ inl (omega arith) | inr tie ↦ inr (inr (omega arith, inl (omega arith))) ]
  ];
}

pub widened7-IsNearest : (g low : ℕ) → g < 2 ^ 64 → low < 128 → IsNearestOf 64 g low (widened_of 64 (Some g) low)
widened7-IsNearest g low a b =
    elim (either (g % 128 + 64) low) [
      | inl lower ↦ rw (nat_lt-yes _ _ lower) (near7-lower g low a b lower)
      | inr more ↦ rw (nat_lt-no _ _ more) (elim (either (low + 64) (g % 128)) [
        | inl upper ↦ rw (nat_lt-yes _ _ upper) (near7-upper g low a b upper)
        | inr same ↦ rw (nat_lt-no _ _ same) (near7-same g low a b more same)
      ])
    ]

-- 8 bits: each of the three ways to be nearest
near8-lower : (g low : ℕ) → g < 2 ^ 64 → low < 256 → g % 256 + 128 < low
    → IsNearestOf 128 g low ((g - g % 256 + low + (2 ^ 64 - 256)) % 2 ^ 64)
near8-lower g low a b h = record { fits = omega arith; same_low = omega arith; near = inr (inl (omega arith)) }

near8-upper : (g low : ℕ) → g < 2 ^ 64 → low < 256 → low + 128 < g % 256
    → IsNearestOf 128 g low ((g - g % 256 + low + 256) % 2 ^ 64)
near8-upper g low a b h = record { fits = omega arith; same_low = omega arith; near = inl (omega arith) }

near8-same : (g low : ℕ) → g < 2 ^ 64 → low < 256 → low ≤ g % 256 + 128 → g % 256 ≤ low + 128
    → IsNearestOf 128 g low ((g - g % 256 + low) % 2 ^ 64)
near8-same g low a b h k = record {
  fits = omega arith;
  same_low = omega arith;
  near = elim (either low (g % 256)) [
    | inl below ↦ elim (either (g % 256) (low + 128))
        [ inl near ↦ inr (inl (omega arith)) | inr tie ↦ inr (inr (omega arith, inr (omega arith))) ]
    | inr above ↦ elim (either low (g % 256 + 128))
        [ inl near ↦ inl (omega arith) | inr tie ↦ inr (inr (omega arith, inl (omega arith))) ]
  ];
}

pub widened8-IsNearest : (g low : ℕ) → g < 2 ^ 64 → low < 256 → IsNearestOf 128 g low (widened_of 128 (Some g) low)
widened8-IsNearest g low a b =
    elim (either (g % 256 + 128) low) [
      | inl lower ↦ rw (nat_lt-yes _ _ lower) (near8-lower g low a b lower)
      | inr more ↦ rw (nat_lt-no _ _ more) (elim (either (low + 128) (g % 256)) [
        | inl upper ↦ rw (nat_lt-yes _ _ upper) (near8-upper g low a b upper)
        | inr same ↦ rw (nat_lt-no _ _ same) (near8-same g low a b more same)
      ])
    ]

-- 15 bits: each of the three ways to be nearest
near15-lower : (g low : ℕ) → g < 2 ^ 64 → low < 32768 → g % 32768 + 16384 < low
    → IsNearestOf 16384 g low ((g - g % 32768 + low + (2 ^ 64 - 32768)) % 2 ^ 64)
near15-lower g low a b h = record { fits = omega arith; same_low = omega arith; near = inr (inl (omega arith)) }

near15-upper : (g low : ℕ) → g < 2 ^ 64 → low < 32768 → low + 16384 < g % 32768
    → IsNearestOf 16384 g low ((g - g % 32768 + low + 32768) % 2 ^ 64)
near15-upper g low a b h = record { fits = omega arith; same_low = omega arith; near = inl (omega arith) }

near15-same : (g low : ℕ) → g < 2 ^ 64 → low < 32768 → low ≤ g % 32768 + 16384 → g % 32768 ≤ low + 16384
    → IsNearestOf 16384 g low ((g - g % 32768 + low) % 2 ^ 64)
near15-same g low a b h k = record {
  fits = omega arith;
  same_low = omega arith;
  near = elim (either low (g % 32768)) [
    | inl below ↦ elim (either (g % 32768) (low + 16384))
        [ inl near ↦ inr (inl (omega arith)) | inr tie ↦ inr (inr (omega arith, inr (omega arith))) ]
    | inr above ↦ elim (either low (g % 32768 + 16384))
        [ inl near ↦ inl (omega arith) | inr tie ↦ inr (inr (omega arith, inl (omega arith))) ]
  ];
}

pub widened15-IsNearest : (g low : ℕ) → g < 2 ^ 64 → low < 32768
    → IsNearestOf 16384 g low (widened_of 16384 (Some g) low)
widened15-IsNearest g low a b =
    elim (either (g % 32768 + 16384) low) [
      | inl lower ↦ rw (nat_lt-yes _ _ lower) (near15-lower g low a b lower)
      | inr more ↦ rw (nat_lt-no _ _ more) (elim (either (low + 16384) (g % 32768)) [
        | inl upper ↦ rw (nat_lt-yes _ _ upper) (near15-upper g low a b upper)
        | inr same ↦ rw (nat_lt-no _ _ same) (near15-same g low a b more same)
      ])
    ]

-- 16 bits: each of the three ways to be nearest
near16-lower : (g low : ℕ) → g < 2 ^ 64 → low < 65536 → g % 65536 + 32768 < low
    → IsNearestOf 32768 g low ((g - g % 65536 + low + (2 ^ 64 - 65536)) % 2 ^ 64)
near16-lower g low a b h = record { fits = omega arith; same_low = omega arith; near = inr (inl (omega arith)) }

near16-upper : (g low : ℕ) → g < 2 ^ 64 → low < 65536 → low + 32768 < g % 65536
    → IsNearestOf 32768 g low ((g - g % 65536 + low + 65536) % 2 ^ 64)
near16-upper g low a b h = record { fits = omega arith; same_low = omega arith; near = inl (omega arith) }

near16-same : (g low : ℕ) → g < 2 ^ 64 → low < 65536 → low ≤ g % 65536 + 32768 → g % 65536 ≤ low + 32768
    → IsNearestOf 32768 g low ((g - g % 65536 + low) % 2 ^ 64)
near16-same g low a b h k = record {
  fits = omega arith;
  same_low = omega arith;
  near = elim (either low (g % 65536)) [
    | inl below ↦ elim (either (g % 65536) (low + 32768))
        [ inl near ↦ inr (inl (omega arith)) | inr tie ↦ inr (inr (omega arith, inr (omega arith))) ]
    | inr above ↦ elim (either low (g % 65536 + 32768))
        [ inl near ↦ inl (omega arith) | inr tie ↦ inr (inr (omega arith, inl (omega arith))) ]
  ];
}

pub widened16-IsNearest : (g low : ℕ) → g < 2 ^ 64 → low < 65536
    → IsNearestOf 32768 g low (widened_of 32768 (Some g) low)
widened16-IsNearest g low a b =
    elim (either (g % 65536 + 32768) low) [
      | inl lower ↦ rw (nat_lt-yes _ _ lower) (near16-lower g low a b lower)
      | inr more ↦ rw (nat_lt-no _ _ more) (elim (either (low + 32768) (g % 65536)) [
        | inl upper ↦ rw (nat_lt-yes _ _ upper) (near16-upper g low a b upper)
        | inr same ↦ rw (nat_lt-no _ _ same) (near16-same g low a b more same)
      ])
    ]

-- 32 bits: each of the three ways to be nearest
near32-lower : (g low : ℕ) → g < 2 ^ 64 → low < 4294967296 → g % 4294967296 + 2147483648 < low
    → IsNearestOf 2147483648 g low ((g - g % 4294967296 + low + (2 ^ 64 - 4294967296)) % 2 ^ 64)
near32-lower g low a b h = record { fits = omega arith; same_low = omega arith; near = inr (inl (omega arith)) }

near32-upper : (g low : ℕ) → g < 2 ^ 64 → low < 4294967296 → low + 2147483648 < g % 4294967296
    → IsNearestOf 2147483648 g low ((g - g % 4294967296 + low + 4294967296) % 2 ^ 64)
near32-upper g low a b h = record { fits = omega arith; same_low = omega arith; near = inl (omega arith) }

near32-same : (g low : ℕ) → g < 2 ^ 64 → low < 4294967296 → low ≤ g % 4294967296 + 2147483648
    → g % 4294967296 ≤ low + 2147483648 → IsNearestOf 2147483648 g low ((g - g % 4294967296 + low) % 2 ^ 64)
near32-same g low a b h k = record {
  fits = omega arith;
  same_low = omega arith;
  near = elim (either low (g % 4294967296)) [
    | inl below ↦ elim (either (g % 4294967296) (low + 2147483648))
        [ inl near ↦ inr (inl (omega arith)) | inr tie ↦ inr (inr (omega arith, inr (omega arith))) ]
    | inr above ↦ elim (either low (g % 4294967296 + 2147483648))
        [ inl near ↦ inl (omega arith) | inr tie ↦ inr (inr (omega arith, inl (omega arith))) ]
  ];
}

pub widened32-IsNearest : (g low : ℕ) → g < 2 ^ 64 → low < 4294967296
    → IsNearestOf 2147483648 g low (widened_of 2147483648 (Some g) low)
widened32-IsNearest g low a b =
    elim (either (g % 4294967296 + 2147483648) low) [
      | inl lower ↦ rw (nat_lt-yes _ _ lower) (near32-lower g low a b lower)
      | inr more ↦ rw (nat_lt-no _ _ more) (elim (either (low + 2147483648) (g % 4294967296)) [
        | inl upper ↦ rw (nat_lt-yes _ _ upper) (near32-upper g low a b upper)
        | inr same ↦ rw (nat_lt-no _ _ same) (near32-same g low a b more same)
      ])
    ]

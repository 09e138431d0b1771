-- Scaling factors, one by one.
use Rattle.std.proofs.Common.{◌≡◌, ℕ, zero, suc, ◌+◌, ◌-◌, ◌<◌, ◌≤◌, ◌==◌, ◌≢◌, List, true, false, refl, arith, None}
use Rattle.std.proofs.Common.{Some}
use Rattle.codec_headers.specs.Bits.{read}
use Rattle.codec_headers.specs.H264.{scale_read, scales}

pub scales-more : (n i last scale : ℕ) (left after : List ℕ) → i < n → scale_read last left ≡ Some (read scale after)
    → scale ≢ 0 → scales (n - i) last left ≡ scales (n - (i + 1)) scale after
unfolding scales
scales-more n i last scale left after below e more =
    let one : n - i ≡ suc (n - (i + 1)) = omega arith in
    let h : (scale == 0) ≡ false = grind arith in
    rw (one, e, h) refl

pub scales-end : (n i last scale : ℕ) (left after : List ℕ) → i < n → scale_read last left ≡ Some (read scale after)
    → scale ≡ 0 → scales (n - i) last left ≡ Some (read tt after)
unfolding scales
scales-end n i last scale left after below e end =
    let one : n - i ≡ suc (n - (i + 1)) = omega arith in
    let h : (scale == 0) ≡ true = grind arith in
    rw (one, e, h) refl

pub scales-short : (n i last : ℕ) (left : List ℕ) → i < n → scale_read last left ≡ None
    → scales (n - i) last left ≡ None
unfolding scales
scales-short n i last left below e =
    let one : n - i ≡ suc (n - (i + 1)) = omega arith in
    rw (one, e) refl

pub scales-all : (n i last : ℕ) (left : List ℕ) → n ≤ i → scales (n - i) last left ≡ Some (read tt left)
unfolding scales
scales-all n i last left above = let none : n - i ≡ zero = omega arith in rw none refl

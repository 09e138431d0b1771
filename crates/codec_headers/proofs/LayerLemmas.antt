-- Flags of sub-layers, two by two.
use Rattle.std.proofs.Common.{◌≡◌, ℕ, zero, suc, ◌+◌, ◌-◌, ◌<◌, ◌≤◌, List, refl, arith, None, Some}
use Rattle.codec_headers.specs.Bits.{read, u}
use Rattle.codec_headers.specs.H265.{layer_bits, layer_flags}

pub flags-more : (n i sum flags more : ℕ) (left after : List ℕ) → i < n → u 2 left ≡ Some (read flags after)
    → more ≡ layer_bits flags → layer_flags (n - i) sum left ≡ layer_flags (n - (i + 1)) (sum + more) after
unfolding layer_flags
flags-more n i sum flags more left after below e same =
    let one : n - i ≡ suc (n - (i + 1)) = omega arith in
    rw (one, e, same) refl

pub flags-short : (n i sum : ℕ) (left : List ℕ) → i < n → u 2 left ≡ None → layer_flags (n - i) sum left ≡ None
unfolding layer_flags
flags-short n i sum left below e =
    let one : n - i ≡ suc (n - (i + 1)) = omega arith in
    rw (one, e) refl

pub flags-all : (n i sum : ℕ) (left : List ℕ) → n ≤ i → layer_flags (n - i) sum left ≡ Some (read sum left)
unfolding layer_flags
flags-all n i sum left above = let none : n - i ≡ zero = omega arith in rw none refl

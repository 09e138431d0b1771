-- One more fragment of a packet.
use Rattle.std.proofs.Common.{◌≡◌, ℕ, suc, zero, ◌+◌, ◌-◌, ◌<◌, ◌≤◌, List, ◌++◌, length, true, false, refl, arith}
use Rattle.std.proofs.Common.{Some, None}
use Rattle.media_files_captures.specs.Fragments.{piece_at, whole_after}
use Rattle.media_files_captures.specs.declared.fragments.IpFragment.{IpFragment}

-- a fragment taken, one fewer may come
pub whole_after-more : (most i : ℕ) (f g : IpFragment) (held : List IpFragment) (out : List ℕ) → i < most
    → piece_at f (length out) held ≡ Some g → g.is_last ≡ false
    → whole_after (most - i) f held out ≡ whole_after (most - (i + 1)) f held (out ++ g.bytes.now)
unfolding whole_after
whole_after-more most i f g held out below found more =
    let one : most - i ≡ suc (most - (i + 1)) = omega arith in
    rw (one, found, more) refl

-- the last fragment taken
pub whole_after-last : (most i : ℕ) (f g : IpFragment) (held : List IpFragment) (out : List ℕ) → i < most
    → piece_at f (length out) held ≡ Some g → g.is_last ≡ true
    → whole_after (most - i) f held out ≡ Some (out ++ g.bytes.now)
unfolding whole_after
whole_after-last most i f g held out below found last =
    let one : most - i ≡ suc (most - (i + 1)) = omega arith in
    rw (one, found, last) refl

-- if no fragment goes on, the packet isn't whole
pub whole_after-none : (n : ℕ) (f : IpFragment) (held : List IpFragment) (out : List ℕ)
    → piece_at f (length out) held ≡ None → whole_after n f held out ≡ None
unfolding whole_after
whole_after-none zero f held out none = refl
whole_after-none (suc n) f held out none = rw none refl

-- if no more may come, it isn't either
pub whole_after-end : (most i : ℕ) (f : IpFragment) (held : List IpFragment) (out : List ℕ) → most ≤ i
    → whole_after (most - i) f held out ≡ None
unfolding whole_after
whole_after-end most i f held out past =
    let none : most - i ≡ zero = omega arith in
    rw none refl

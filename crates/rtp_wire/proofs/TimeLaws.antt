use Rattle.std.proofs.Common.{◌≡◌, ◌<◌, ◌*◌, ◌/◌, ◌^◌, Some, arith}
use Rattle.std.proofs.Math.Nat.{mul-div_cancel}
use Rattle.rtp_wire.specs.Time.{Time, checked_rebased}

-- A time in ticks of its own clock is itself.
pub same_clock : (t : Time) → 0 < t.rate → t.ticks < 2 ^ 64 → checked_rebased t t.rate ≡ Some t
same_clock t some fits = let same_ticks : t.ticks * t.rate / t.rate ≡ t.ticks = mul-div_cancel t.ticks some in
    grind (arith)

use Rattle.std.proofs.Common.{ℕ, ◌+◌, ◌<◌, ◌≤◌, length}
use Rattle.payload_core_av1.specs.Leb128.{spelling}
use Rattle.payload_core_av1.proofs.av1_sender.fitting.Given as goal

-- no larger part fits
abbrev pub invariant-loop-part : goal.invariant-loop-part
invariant-loop-part l = record {
  within : l.part ≤ l.len;
  above : (k : ℕ) → l.part < k → k ≤ l.len → l.room < length (spelling k) + k;
}

abbrev pub decreases-loop-part : goal.decreases-loop-part
decreases-loop-part l = l.part

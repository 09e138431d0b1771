use Rattle.std.proofs.Common.{◌≡◌, ◌+◌, ◌<◌, length}
use Rattle.payload_core_av1.specs.Leb128.{size_limit, spelling}
use Rattle.payload_core_av1.proofs.leb128.size_len.Given as goal

-- the bytes so far, and those of what is left
abbrev pub invariant-loop-left : goal.invariant-loop-left
invariant-loop-left l = record {
  small : l.left < size_limit;
  whole : l.len + length (spelling l.left) ≡ 1 + length (spelling l.size);
}

abbrev pub decreases-loop-left : goal.decreases-loop-left
decreases-loop-left l = l.left

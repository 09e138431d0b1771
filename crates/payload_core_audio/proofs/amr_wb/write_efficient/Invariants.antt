use Rattle.std.proofs.Common.{◌≡◌, ℕ, ◌+◌, ◌*◌, ◌/◌, ◌<◌, get_or}
use Rattle.payload_core_audio.specs.AmrWb.{byte_from}
use Rattle.payload_core_audio.specs.BitBytes.{endless_bit}
use Rattle.payload_core_audio.proofs.amr_wb.write_efficient.Given as goal

-- the bytes so far, and the bits left for the next one
abbrev pub invariant-loop-k : goal.invariant-loop-k
invariant-loop-k l = record {
  few : l.left < 4;
  next : l.left * 64 + get_or l.bytes l.k 0 / 4 ≡ byte_from (endless_bit l.bytes) l.k;
  written : (j : ℕ) → j < l.k → get_or l.out j 0 ≡ byte_from (endless_bit l.bytes) j;
}

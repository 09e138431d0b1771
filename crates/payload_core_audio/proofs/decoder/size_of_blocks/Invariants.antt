use Rattle.std.proofs.Common.{◌≡◌, ℕ, ◌+◌, ◌*◌, ◌≤◌}
use Rattle.payload_core_audio.specs.RedReading.{size_of_blocks}
use Rattle.payload_core_audio.proofs.decoder.size_of_blocks.Given as goal

-- with the bytes of the blocks that are left it is the whole
abbrev pub invariant-loop : goal.invariant-loop
invariant-loop l = record {
  few : l.size ≤ l.counter * 1024;
  whole : (n : ℕ) → l.counter + n ≡ l.count → l.size + size_of_blocks n l.headers ≡ size_of_blocks l.count l.packet;
}

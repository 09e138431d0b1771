use Rattle.std.proofs.Common.{ℕ, ◌*◌, ◌<◌, ◌≤◌, slice_index}
use Rattle.payload_core_audio.proofs.decoder.count_of_blocks.Given as goal

-- the headers so far have F set
abbrev pub invariant-loop-count : goal.invariant-loop-count
invariant-loop-count l = (j : ℕ) → j < l.count → 128 ≤ slice_index l.packet (4 * j)

use Rattle.std.proofs.Common.{◌≡◌, ◌+◌, ◌≤◌, map}
use Rattle.payload_core_audio.specs.RedHistory.{kept_of}
use Rattle.payload_core_audio.specs.RedWrapping.{bytes_of}
use Rattle.payload_core_audio.proofs.RepeatLemmas.{first}
use Rattle.payload_core_audio.proofs.repeated.reach.Given as goal

-- the packet with the blocks so far is within the budget
abbrev pub invariant-loop-i : goal.invariant-loop-i
invariant-loop-i l = record {
  long : l.len ≡ 1 + bytes_of (first (map kept_of l.history) l.distances l.time l.i) + l.size;
  within : l.len ≤ l.budget;
}

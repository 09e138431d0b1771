use Rattle.std.proofs.Common.{◌≡◌}
use Rattle.payload_core_audio.proofs.DistanceLemmas.{AreAbove, before}
use Rattle.payload_core_audio.proofs.sender.RedSender.are_distances.Given as goal

-- the distances so far rise, and the last one is known
abbrev pub invariant-loop-distance : goal.invariant-loop-distance
invariant-loop-distance l = record {
  above : AreAbove l.distances l.distance-index;
  last : l.previous ≡ before l.distances l.distance-index;
}

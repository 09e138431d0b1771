use Rattle.std.proofs.Common.{◌≡◌, drop}
use Rattle.rtp_media_ends.specs.Params.{rise_above}
use Rattle.rtp_media_ends.proofs.params.are_distances.Given as goal

-- the distances that are left say the same as all of them
abbrev pub invariant-loop-distance : goal.invariant-loop-distance
invariant-loop-distance l = rise_above l.least (drop l.distance-index l.distances) ≡ rise_above 0 l.distances

use Rattle.std.proofs.Common.{◌≡◌, map, take}
use Rattle.payload_core_audio.specs.RedHistory.{kept_of}
use Rattle.payload_core_audio.specs.RedViews.{old_block}
use Rattle.payload_core_audio.specs.RedWrapping.{levels}
use Rattle.payload_core_audio.proofs.history.levels.Given as goal

-- the levels at the distances so far
abbrev pub invariant-loop-distance : goal.invariant-loop-distance
invariant-loop-distance l = map old_block l.olds.items
    ≡ levels (map kept_of l.history) (take l.distance-index l.distances) l.time

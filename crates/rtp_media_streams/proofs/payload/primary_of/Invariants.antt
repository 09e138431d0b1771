use Rattle.std.proofs.Common.{◌≡◌}
use Rattle.payload_core_audio.specs.RedViews.{items_left}
use Rattle.rtp_media_streams.specs.Redundant.{primary_of}
use Rattle.rtp_media_streams.proofs.payload.primary_of.Given as goal

-- no primary payload stood among those that came so far
abbrev pub invariant-loop-block : goal.invariant-loop-block
invariant-loop-block l = primary_of l.pt (items_left l.block-iterator) ≡ primary_of l.pt (items_left l.initial.blocks)

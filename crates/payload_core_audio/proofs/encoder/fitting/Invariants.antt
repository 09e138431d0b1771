use Rattle.std.proofs.Common.{◌≡◌, map, take}
use Rattle.std.specs.Prelude.{filter}
use Rattle.payload_core_audio.specs.RedSending.{fits}
use Rattle.payload_core_audio.specs.RedViews.{block_of, old_block}
use Rattle.payload_core_audio.proofs.encoder.fitting.Given as goal

-- the first 32 that fit of the blocks so far
abbrev pub invariant-loop-block : goal.invariant-loop-block
invariant-loop-block l = map old_block l.olds.items ≡ take 32 (filter fits (map block_of (take l.block-index l.blocks)))

use Rattle.std.proofs.Common.{◌≡◌, ◌%◌, ◌∷◌, ◌++◌, map, take}
use Rattle.std.specs.Prelude.{flat_map}
use Rattle.payload_core_audio.specs.Red.{header}
use Rattle.payload_core_audio.specs.RedSending.{masked}
use Rattle.payload_core_audio.specs.RedViews.{old_block}
use Rattle.payload_core_audio.proofs.spelling.spell.Given as goal

-- the headers so far
abbrev pub invariant-loop-block : goal.invariant-loop-block
invariant-loop-block l = l.packet.items ≡ flat_map header (map masked (map old_block (take l.block-index l.blocks)))

-- all headers, and the payloads so far
abbrev pub invariant-loop-old : goal.invariant-loop-old
invariant-loop-old l = l.packet.items ≡ flat_map header (map masked (map old_block l.blocks))
    ++ (l.pt % 128 ∷ flat_map (λ b. b.payload) (map masked (map old_block (take l.old-index l.blocks))))

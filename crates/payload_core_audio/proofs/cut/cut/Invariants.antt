use Rattle.std.proofs.Common.{◌≡◌, ◌<◌, ◌++◌, map}
use Rattle.std.specs.Slice.Iter.{chunks_rest, chunks_size}
use Rattle.payload_core_base.specs.Packing.{with_prefix}
use Rattle.payload_core_base.specs.Pieces.{pieces}
use Rattle.payload_core_audio.proofs.cut.cut.Given as goal

-- the packets so far, and the pieces of what is left
abbrev pub invariant-loop-piece : goal.invariant-loop-piece
invariant-loop-piece l = record {
  some_limit : 0 < l.limit;
  size : chunks_size l.piece-iterator ≡ l.limit;
  whole : map (λ p. p.items) l.packets.items
      ++ with_prefix l.prefix (pieces l.limit (chunks_rest l.piece-iterator))
      ≡ with_prefix l.prefix (pieces l.limit l.bytes);
}

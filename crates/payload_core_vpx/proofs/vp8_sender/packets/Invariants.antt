use Rattle.std.proofs.Common.{◌≡◌, ◌++◌, true, map}
use Rattle.std.specs.Slice.Iter.{chunks_rest, chunks_size}
use Rattle.payload_core_base.specs.Packing.{with_prefix}
use Rattle.payload_core_base.specs.Pieces.{pieces}
use Rattle.payload_core_vpx.specs.Vp8.{described}
use Rattle.payload_core_vpx.proofs.vp8_sender.packets.Given as goal

-- the packets so far, and those of what is left
abbrev pub invariant-loop-piece : goal.invariant-loop-piece
invariant-loop-piece l = record {
  size : chunks_size l.piece-iterator ≡ l.size;
  whole : map (λ p. p.items) l.packets.items
      ++ with_prefix l.prefix (described l.tells l.id l.first (pieces l.size (chunks_rest l.piece-iterator)))
      ≡ with_prefix l.prefix (described l.tells l.id true (pieces l.size l.bytes));
}

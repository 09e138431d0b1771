use Rattle.std.proofs.Common.{◌≡◌, ◌-◌, ◌++◌, map, length}
use Rattle.std.specs.Slice.Iter.{chunks_rest, chunks_size}
use Rattle.payload_core_base.specs.Packing.{with_prefix}
use Rattle.payload_core_base.specs.Pieces.{pieces}
use Rattle.h26x_payload_units.specs.Fragments.{in_fragments}
use Rattle.h26x_payload_formats.specs.H264Packing.{fragments_of, fu_a}
use Rattle.h26x_payload_formats.proofs.h264_sender.push_fragments.Given as goal

-- the packets so far, and those of what is left
abbrev pub invariant-loop-part : goal.invariant-loop-part
invariant-loop-part l = record {
  size : chunks_size l.part-iterator ≡ l.limit - 2;
  left : l.left ≡ length (chunks_rest l.part-iterator);
  whole : map (λ p. p.items) l.packets.items
      ++ with_prefix l.prefix
      (in_fragments (fu_a l.header) l.first (pieces (l.limit - 2) (chunks_rest l.part-iterator)))
      ≡ map (λ p. p.items) l.initial.packets.items ++ with_prefix l.prefix (fragments_of l.limit l.unit);
}

use Rattle.std.proofs.Common.{◌≡◌, ◌-◌, ◌++◌, false, map, length}
use Rattle.std.specs.Slice.Iter.{chunks_rest, chunks_size}
use Rattle.payload_core_base.specs.Packing.{with_prefix}
use Rattle.payload_core_base.specs.Pieces.{pieces}
use Rattle.h26x_payload_units.specs.Fragments.{in_fragments}
use Rattle.h26x_payload_formats.specs.Packing.{fragment}
use Rattle.h26x_payload_formats.proofs.sender.push_later_fragments.Given as goal

-- the packets so far, and those of what is left
abbrev pub invariant-loop-part : goal.invariant-loop-part
invariant-loop-part l = record {
  size : chunks_size l.part-iterator ≡ l.form.limit - 3;
  left : l.left ≡ length (chunks_rest l.part-iterator);
  whole : map (λ p. p.items) l.packets.items
      ++ with_prefix l.prefix (in_fragments (fragment l.form.layout l.form.donl l.cut.number l.cut.high l.cut.low)
      false (pieces (l.form.limit - 3) (chunks_rest l.part-iterator)))
      ≡ map (λ p. p.items) l.initial.packets.items
      ++ with_prefix l.prefix (in_fragments (fragment l.form.layout l.form.donl l.cut.number l.cut.high l.cut.low)
      false (pieces (l.form.limit - 3) l.rest));
}

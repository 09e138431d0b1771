use Rattle.std.proofs.Common.{◌≡◌, ◌++◌, map, length}
use Rattle.payload_core_base.specs.Law.{joined}
use Rattle.payload_core_base.specs.Packing.{with_prefix}
use Rattle.payload_core_av1.specs.Av1Packing.{packets_of, packets_within}
use Rattle.payload_core_av1.specs.Av1Packets.{AreTexts}
use Rattle.payload_core_av1.proofs.av1_sender.packets.Given as goal

-- the packets so far, and those of what is left
abbrev pub invariant-loop-alloc : goal.invariant-loop-alloc
invariant-loop-alloc l = record {
  texts : AreTexts l.texts.items;
  packets : map (λ p. p.items) l.packets.items
      ++ with_prefix l.prefix (packets_within (length (joined l.texts.items)) l.limit l.z l.n
      l.texts.items)
      ≡ with_prefix l.prefix (packets_of l.limit l.fn.kept.begins l.fn.kept.texts.items);
}

abbrev pub decreases-loop-alloc : goal.decreases-loop-alloc
decreases-loop-alloc l = length (joined l.texts.items)

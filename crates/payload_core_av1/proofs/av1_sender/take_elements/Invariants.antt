use Rattle.std.proofs.Common.{◌≡◌, ◌+◌, ◌++◌, length, vec_len}
use Rattle.payload_core_av1.specs.Av1Packing.{back, front, is_cut, longest}
use Rattle.payload_core_av1.specs.Av1Packets.{AreTexts}
use Rattle.payload_core_av1.proofs.PrefixLemmas.{greedy}
use Rattle.payload_core_av1.proofs.av1_sender.take_elements.Given as goal

-- the elements so far, and those that are still taken
abbrev pub invariant-loop-text : goal.invariant-loop-text
invariant-loop-text l = record {
  texts : AreTexts l.texts.items;
  elements : l.elements.items
      ++ front (greedy (vec_len l.elements) l.left l.texts.items) l.texts.items
      ≡ front (longest (l.room + 1) l.initial.texts.items)
      l.initial.texts.items;
  cut : is_cut (greedy (vec_len l.elements) l.left l.texts.items) l.texts.items
      ≡ is_cut (longest (l.room + 1) l.initial.texts.items) l.initial.texts.items;
  behind : back (greedy (vec_len l.elements) l.left l.texts.items)
      l.texts.items ≡ back (longest (l.room + 1) l.initial.texts.items)
      l.initial.texts.items;
}

abbrev pub decreases-loop-text : goal.decreases-loop-text
decreases-loop-text l = length l.texts.items

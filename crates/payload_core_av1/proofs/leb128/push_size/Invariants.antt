use Rattle.std.proofs.Common.{◌≡◌, ◌++◌, ◌<◌}
use Rattle.payload_core_av1.specs.Av1ReadingViews.{Keeps}
use Rattle.payload_core_av1.specs.Leb128.{size_limit, spelling}
use Rattle.payload_core_av1.proofs.leb128.push_size.Given as goal

-- the bytes so far, and those of what is left
abbrev pub invariant-loop-left : goal.invariant-loop-left
invariant-loop-left l = record {
  small : l.left < size_limit;
  kept : Keeps l.initial.out.items l.out.items;
  whole : l.out.items ++ spelling l.left ≡ l.initial.out.items ++ spelling l.size;
}

abbrev pub decreases-loop-left : goal.decreases-loop-left
decreases-loop-left l = l.left

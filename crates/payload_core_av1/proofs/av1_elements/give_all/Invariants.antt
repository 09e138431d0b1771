use Rattle.std.proofs.Common.{◌≡◌, map, drop, Some}
use Rattle.payload_core_av1.specs.Av1Reading.{all_given, joined_option}
use Rattle.payload_core_av1.specs.Av1ReadingViews.{Keeps}
use Rattle.payload_core_av1.proofs.av1_elements.give_all.Given as goal

-- what was given so far, and what the others give
abbrev pub invariant-loop-element : goal.invariant-loop-element
invariant-loop-element l = record {
  given : joined_option (Some l.out.items) (all_given (map (λ e. e.now) (drop l.element-index l.elements)))
      ≡ joined_option (Some l.initial.out.items) (all_given (map (λ e. e.now) l.elements));
  kept : Keeps l.initial.out.items l.out.items;
}

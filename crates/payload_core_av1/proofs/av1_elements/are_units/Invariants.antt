use Rattle.std.proofs.Common.{◌≡◌, drop, is_some, map}
use Rattle.payload_core_av1.specs.Av1Reading.{all_given}
use Rattle.payload_core_av1.proofs.av1_elements.are_units.Given as goal

-- whether the others are decides
abbrev pub invariant-loop-element : goal.invariant-loop-element
invariant-loop-element l = is_some (all_given (map (λ e. e.now) (drop l.element-index l.elements)))
    ≡ is_some (all_given (map (λ e. e.now) l.elements))

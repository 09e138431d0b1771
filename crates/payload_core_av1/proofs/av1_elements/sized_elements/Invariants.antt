use Rattle.std.proofs.Common.{◌≡◌, map, length}
use Rattle.payload_core_av1.specs.Av1Reading.{sized_elements}
use Rattle.payload_core_av1.specs.Av1ReadingViews.{all_in_front}
use Rattle.payload_core_av1.proofs.av1_elements.sized_elements.Given as goal

-- the elements so far, and those that are left
abbrev pub invariant-loop-rest : goal.invariant-loop-rest
invariant-loop-rest l = all_in_front (map (λ e. e.now) l.elements.items) (sized_elements (length l.rest) l.rest)
    ≡ sized_elements (length l.body) l.body

abbrev pub decreases-loop-rest : goal.decreases-loop-rest
decreases-loop-rest l = length l.rest

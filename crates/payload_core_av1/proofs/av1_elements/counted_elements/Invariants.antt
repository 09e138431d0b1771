use Rattle.std.proofs.Common.{◌≡◌, ◌-◌, map}
use Rattle.payload_core_av1.specs.Av1Reading.{counted_elements}
use Rattle.payload_core_av1.specs.Av1ReadingViews.{all_in_front}
use Rattle.payload_core_av1.proofs.av1_elements.counted_elements.Given as goal

-- the elements so far, and those that are left
abbrev pub invariant-loop : goal.invariant-loop
invariant-loop l = all_in_front (map (λ e. e.now) l.elements.items) (counted_elements (l.count - l.counter) l.rest)
    ≡ counted_elements l.count l.body

use Rattle.std.specs.Prelude.{◌≡◌, List, ℕ, map}
use Rattle.std.specs.Borrow.{Bor}
use Rattle.std.specs.Iterator.{Drains, YieldsFirstRef}
use Rattle.h26x_payload_units.specs.declared.iteration.NalUnits.{NalUnits}
use Rattle.h26x_payload_units.specs.Units.{units_behind}

-- The units the iterator has yet to yield.
abbrev pub units_left : NalUnits → List (List ℕ)
units_left it = units_behind it.rest.now

-- What is handed out until None are these units, all of them and in order.
abbrev pub HandsOutAll : Type 0
HandsOutAll = (it : NalUnits) (units : List (Bor (List ℕ))) → Drains (YieldsFirstRef units_left) it units
    → map (λ u. u.now) units ≡ units_left it

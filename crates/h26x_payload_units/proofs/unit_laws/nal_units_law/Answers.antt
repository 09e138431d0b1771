use Rattle.std.proofs.Common.{refl}
use Rattle.std.proofs.lemmas.Iterator.{items_from_drains}
use Rattle.std.proofs.lemmas.Iterator.Consumers.{YieldsList-from_first}
use Rattle.h26x_payload_units.specs.UnitsLeft.{units_left}
use Rattle.h26x_payload_units.proofs.unit_laws.nal_units_law.Goals as goal

pub returns : goal.returns
returns c = λ it units d. items_from_drains units (d.1.0, d.1.1, λ _. (d.0, d.1.2))
    (YieldsList-from_first (λ u. u.now) units_left (units_left it) refl)

-- The value of a place after a mutable borrow of its contents.
use Rattle.std.specs.Prelude.{Some}
use Rattle.std.specs.Borrow.{Lends, MutBor, Fml}
use Rattle.jilqamur.specs.declared.object.Object.{Object}
use Rattle.jilqamur.specs.declared.place.Place.{Place}
use Rattle.jilqamur.specs.contracts.place.Place as Row
use Rattle.jilqamur.specs.contracts.object.Object as ObjectRow

-- One that holds this.
abbrev pub holding : Place → Object → Place
holding place p = record place { object = Some p }

-- After the borrow, the place holds the borrow's final value.
abbrev pub LendsObject : MutBor Place → MutBor Object → Fml
LendsObject place held = Lends Row.the_row ObjectRow.the_row place held (holding place.now)

-- What is told of units.
use Rattle.std.specs.Prelude.{ℕ, ◌≡◌, List, Option, Some, None}
use Rattle.payload_core_buffer.specs.Steps.{MediaUnit}
use Rattle.jilqamur.specs.Units.{told_by}
use Rattle.jilqamur.specs.declared.payload_unit.WireUnit.{WireUnit}

-- What is told of a unit beside its bytes.
abbrev pub wire_unit : MediaUnit → WireUnit
wire_unit u = told_by u.first u.last u.time u.extra

abbrev pub bytes_of : Option MediaUnit → Option (List ℕ)
bytes_of None = None
bytes_of (Some u) = Some u.bytes

-- What is told of the unit.
abbrev pub IsToldOf : Option MediaUnit → WireUnit → Type 0
IsToldOf None told = Unit {0}
IsToldOf (Some u) told = told ≡ wire_unit u

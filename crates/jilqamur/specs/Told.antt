-- What is told of the unit that a poll left.
use Rattle.std.specs.Prelude.{ℕ, ◌≡◌, Option, Some, None}
use Rattle.payload_core_buffer.specs.Steps.{MediaUnit}
use Rattle.jilqamur.specs.Codes.{ok, nothing}
use Rattle.jilqamur.specs.Values.{values_told}
use Rattle.jilqamur.specs.declared.values.WireValues.{WireValues}

-- What is told of the header extensions of the last datagram of a unit, if there is one.
abbrev pub TellsValues : Option MediaUnit → WireValues → ℕ → WireValues → Type 0
TellsValues None before result told = (result ≡ nothing) × (told ≡ before)
TellsValues (Some u) before result told = (result ≡ ok) × (told ≡ values_told u.values)

-- Values of header extensions as they are kept.
use Rattle.std.specs.Prelude.{Option, Some, None}
use Rattle.std.specs.Box.{box_value}
use Rattle.std.specs.Global.{Box}
use Rattle.rtp_wire.specs.Values.{absent}
use Rattle.rtp_wire.specs.declared.values.ExtensionValues.{ExtensionValues}

-- Nothing stands for no values.
abbrev pub or_absent : Option (Box ExtensionValues) → ExtensionValues
or_absent None = absent
or_absent (Some b) = box_value b

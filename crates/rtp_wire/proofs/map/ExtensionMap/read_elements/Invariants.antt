use Rattle.std.proofs.Common.{◌≡◌, length}
use Rattle.rtp_wire.specs.Elements.{values_from}
use Rattle.rtp_wire.specs.Values.{absent}
use Rattle.rtp_wire.proofs.map.ExtensionMap.read_elements.Given as goal

-- reading goes on from here
abbrev pub invariant-loop-id : goal.invariant-loop-id
invariant-loop-id l = values_from l.one_byte l.self (length l.rest) l.rest l.values
    ≡ values_from l.one_byte l.self (length l.content) l.content absent

abbrev pub decreases-loop-id : goal.decreases-loop-id
decreases-loop-id l = length l.rest

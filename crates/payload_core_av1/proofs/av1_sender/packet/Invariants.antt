use Rattle.std.proofs.Common.{◌≡◌, ◌++◌, drop}
use Rattle.payload_core_av1.specs.Av1Packing.{body_from, packet_of}
use Rattle.payload_core_av1.proofs.av1_sender.packet.Given as goal

-- the bytes so far, and the elements that are left
abbrev pub invariant-loop-place : goal.invariant-loop-place
invariant-loop-place l = l.packet.items ++ body_from l.place (drop l.place l.elements)
    ≡ l.prefix ++ packet_of l.z l.y l.n l.elements

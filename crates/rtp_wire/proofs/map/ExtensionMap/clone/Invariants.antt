use Rattle.std.proofs.Common.{◌≡◌}
use Rattle.rtp_wire.proofs.MapLaws.{copied_to}
use Rattle.rtp_wire.proofs.map.ExtensionMap.clone.Given as goal

-- the first places are copied
abbrev pub invariant-loop-place : goal.invariant-loop-place
invariant-loop-place l = l.copy ≡ copied_to l.self l.place

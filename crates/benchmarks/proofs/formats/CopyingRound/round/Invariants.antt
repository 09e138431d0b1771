use Rattle.std.proofs.Common.{◌≡◌, map}
use Rattle.benchmarks.specs.Read.{JoinsFirst}
use Rattle.benchmarks.proofs.formats.CopyingRound.round.Given as goal

-- the packets so far are in the fragment
abbrev pub invariant-loop-packet : goal.invariant-loop-packet
invariant-loop-packet l = record {
  joined : JoinsFirst (map (λ p. p.items) l.packets) l.packet-index l.self.fragment.items;
  packets_stay : l.self.packets ≡ l.fn.self.packets;
}

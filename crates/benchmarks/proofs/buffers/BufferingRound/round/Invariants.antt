use Rattle.std.proofs.Common.{◌≡◌}
use Rattle.benchmarks.specs.Buffered.{PushesFirst, number_after}
use Rattle.benchmarks.proofs.buffers.BufferingRound.round.Given as goal

-- the packets so far were pushed
abbrev pub invariant-loop-i : goal.invariant-loop-i
invariant-loop-i g l = record {
  pushes : PushesFirst l.fn.self l.time l.i l.fn.self.buffer l.self.buffer;
  number : l.self.number ≡ number_after l.fn.self l.i;
  step_stays : l.self.step ≡ l.fn.self.step;
  packets_stay : l.self.packets ≡ l.fn.self.packets;
  format_stays :
      g.D.Depacketizer.format l.self.buffer.depacketizer ≡ g.D.Depacketizer.format l.fn.self.buffer.depacketizer;
  holding_stays : l.self.buffer.holding ≡ l.fn.self.buffer.holding;
}

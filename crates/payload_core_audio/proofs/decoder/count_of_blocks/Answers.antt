use Rattle.std.proofs.Common.{sym, arith}
use Rattle.payload_core_audio.proofs.CountLemmas.{count-is, count-none}
use Rattle.payload_core_audio.proofs.decoder.count_of_blocks.Goals as goal

pub returns-then-byte_at-lt128-clause-value : goal.returns-then-byte_at-lt128-clause-value
returns-then-byte_at-lt128-clause-value c =
    sym (count-is c.args.packet.now c.loop-count.count (omega arith) (omega arith) c.loop-count.invariant)

pub returns-clause-value : goal.returns-clause-value
returns-clause-value c = sym (count-none c.args.packet.now (λ j lt. c.loop-count.invariant j (omega arith)))

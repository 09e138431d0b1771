use Rattle.codec_headers.proofs.BitLemmas.{IsTaken}
use Rattle.codec_headers.proofs.bits.Bits.take.Given as goal

abbrev pub invariant-loop-taken : goal.invariant-loop-taken
invariant-loop-taken l = IsTaken l.initial.self l.self l.number l._taken

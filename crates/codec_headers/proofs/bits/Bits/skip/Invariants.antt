use Rattle.codec_headers.proofs.BitLemmas.{IsPassed}
use Rattle.codec_headers.proofs.bits.Bits.skip.Given as goal

abbrev pub invariant-loop-passed : goal.invariant-loop-passed
invariant-loop-passed l = IsPassed l.initial.self l.self l._passed

use Rattle.codec_headers.proofs.BitLemmas.{ArePassed}
use Rattle.codec_headers.proofs.bits.Bits.pass_zeros.Given as goal

abbrev pub invariant-loop-passed : goal.invariant-loop-passed
invariant-loop-passed l = ArePassed l.initial.self l.self l.passed

use Rattle.std.proofs.Common.{length}
use Rattle.rtp_media_program.specs.Writes.{LeavesRest}
use Rattle.rtp_media_program.proofs.writing.write_whole.Given as goal

-- what has been written, and then the rest, are the bytes
abbrev pub invariant-loop-rest : goal.invariant-loop-rest
invariant-loop-rest g l = LeavesRest (g.W.Write.contents l.fn.writer) (g.W.Write.contents l.writer) l.fn.bytes l.rest

abbrev pub decreases-loop-rest : goal.decreases-loop-rest
decreases-loop-rest g l = length l.rest

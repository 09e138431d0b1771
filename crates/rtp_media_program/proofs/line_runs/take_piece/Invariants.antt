use Rattle.std.proofs.Common.{take}
use Rattle.rtp_media_program.specs.Progress.{GoesOn}
use Rattle.rtp_media_program.proofs.line_runs.take_piece.Given as goal

-- the run has gone on by the bytes so far
abbrev pub invariant-loop-byte : goal.invariant-loop-byte
invariant-loop-byte g l =
    GoesOn g.A.Respond.gives (take l.byte-index l.piece) l.fn.responder (g.W.Write.contents l.fn.writer) l.fn.line
    l.fn.status
    l.responder (g.W.Write.contents l.writer) l.line l.status

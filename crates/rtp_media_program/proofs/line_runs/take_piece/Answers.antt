use Rattle.std.proofs.Common.{◌+◌, ◌++◌, drop, subst}
use Rattle.rtp_media_program.specs.Input.{lines_of}
use Rattle.rtp_media_program.specs.Stops.{StopsIn, WritesFront}
use Rattle.rtp_media_program.proofs.Stopping.{on_err, piece-parts}
use Rattle.rtp_media_program.proofs.line_runs.take_piece.Goals as goal

pub returns-in_err-status-clause-stopped : goal.returns-in_err-status-clause-stopped
returns-in_err-status-clause-stopped g c = on_err {P = StopsIn g.A.Respond.gives c.args.piece.now
    c.args.responder.now (g.W.Write.contents c.args.writer.now) c.args.line.now c.args.status
    (g.W.Write.contents c.take_byte.new.writer)} _ (λ start before seen p rest.
    let behind = drop (c.loop-byte.byte-index + 1) c.args.piece.now ++ rest in
    let went = c.loop-byte.invariant start before seen p in
    subst (λ input. WritesFront g.A.Respond.gives start before (g.W.Write.contents c.take_byte.new.writer)
    (lines_of input))
    (piece-parts seen c.args.piece.now rest c.loop-byte.byte-index _ c.loop-byte-test.true)
    (c.in_err-status.ensures.stopped start before _ went behind))

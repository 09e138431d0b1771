use Rattle.rtp_media_program.proofs.InputLines.{other_byte}
use Rattle.rtp_media_program.proofs.Steps.{Progress-byte, Progress-feed}
use Rattle.std.proofs.Common.{[], ◌∷◌}
use Rattle.rtp_media_program.specs.Stops.{StopsIn}
use Rattle.rtp_media_program.proofs.Stopping.{on_err, stopped-feed}
use Rattle.rtp_media_program.proofs.line_runs.take_byte.Goals as goal

pub returns-then-byte-ne10-clause-goes_on : goal.returns-then-byte-ne10-clause-goes_on
returns-then-byte-ne10-clause-goes_on g c = λ start before seen p.
    let pushed = c.in_ok-push.ensures in
    rw pushed (Progress-byte g.A.Respond.gives start before seen _ _ _ _ c.args.byte
    (other_byte c.args.byte c.if-byte-ne10.true) p)

pub returns-clause-goes_on : goal.returns-clause-goes_on
returns-clause-goes_on g c = λ start before seen p.
    let feed = c.if-byte-ne10.false in
    let one = rw c.text.ensures at c.in_ok-last.ensures.printed in
    let cleared = c.clear.ensures in
    let joined = c.and.ensures in
    rw (cleared, joined, feed) (Progress-feed g.A.Respond.gives start before seen _ _ _ _ _ _ _ p one)

pub returns-in_err-last-clause-stopped : goal.returns-in_err-last-clause-stopped
returns-in_err-last-clause-stopped g c = on_err {P = StopsIn g.A.Respond.gives (c.args.byte ∷ [])
    c.args.responder.now (g.W.Write.contents c.args.writer.now) c.args.line.now c.args.status
    (g.W.Write.contents c.answer_line.new.writer)} _ (λ start before seen p rest.
    let feed = c.if-byte-ne10.false in
    let one = rw c.text.ensures at c.in_err-last.ensures.stopped in
    rw feed (stopped-feed g.A.Respond.gives start before seen _ _ _ _ _ p one rest))

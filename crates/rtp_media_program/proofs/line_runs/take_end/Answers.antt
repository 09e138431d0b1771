use Rattle.rtp_media_program.proofs.Steps.{Printed-ended, Printed-last}
use Rattle.rtp_media_program.specs.Stops.{StopsAtEnd}
use Rattle.rtp_media_program.proofs.Stopping.{on_err, stopped-end}
use Rattle.rtp_media_program.proofs.line_runs.take_end.Goals as goal

pub returns-then-is_empty-clause-ends : goal.returns-then-is_empty-clause-ends
returns-then-is_empty-clause-ends g c = λ start before seen p.
    Printed-ended g.A.Respond.gives start before seen _ _ _ _ (c.is_empty.ensures.0 c.if-is_empty.true) p

pub returns-clause-ends : goal.returns-clause-ends
returns-clause-ends g c = λ start before seen p.
    let one = rw c.text.ensures at c.in_ok-last.ensures.printed in
    let joined = c.and.ensures in
    rw joined (Printed-last g.A.Respond.gives start before seen _ _ _ _ _ _ _
    (λ empty. cc (c.is_empty.ensures.1 empty, c.if-is_empty.false)) p one)

pub returns-in_err-last-clause-stopped : goal.returns-in_err-last-clause-stopped
returns-in_err-last-clause-stopped g c = on_err {P = StopsAtEnd g.A.Respond.gives c.args.responder.now
    (g.W.Write.contents c.args.writer.now) c.args.line.now c.args.status (g.W.Write.contents c.answer_line.new.writer)}
    _ (λ start before seen p.
    let one = rw c.text.ensures at c.in_err-last.ensures.stopped in
    stopped-end g.A.Respond.gives start before seen _ _ _ _ _
    (λ empty. cc (c.is_empty.ensures.1 empty, c.if-is_empty.false)) p one)

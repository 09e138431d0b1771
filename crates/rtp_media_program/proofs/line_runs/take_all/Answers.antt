use Rattle.std.proofs.Common.{[]}
use Rattle.std.proofs.lemmas.Result.{IfOk-weaker}
use Rattle.rtp_media_program.proofs.Steps.{Progress-start}
use Rattle.rtp_media_program.proofs.line_runs.take_all.Goals as goal

pub returns : goal.returns
returns g c =
    let went = c.in_ok-status.ensures.goes_on c.args.responder.now (g.W.Write.contents c.args.writer.now) []
    (rw c.new-line.ensures (Progress-start g.A.Respond.gives _ _)) in
    IfOk-weaker c.take_end.result _ _ (λ status ends. ends _ _ _ went) c.take_end.ensures.ends

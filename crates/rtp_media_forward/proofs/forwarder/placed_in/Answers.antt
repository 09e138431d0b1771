use Rattle.std.proofs.Common.{sym, ◌∙◌}
use Rattle.rtp_media_forward.proofs.Newest.{has-it, has-not}
use Rattle.rtp_media_forward.proofs.forwarder.placed_in.Goals as goal

pub returns-then-has-clause-placed : goal.returns-then-has-clause-placed
returns-then-has-clause-placed c =
    sym (has-it c.args.pieces.now c.loop-newer.newer c.end_before.result c.args.source c.args.number c.args.time _
    c.loop-newer-test.true c.loop-newer.invariant c.end_before.ensures.end (sym c.has.ensures ∙ c.if-has.true))

pub loop-newer-preserved : goal.loop-newer-preserved
loop-newer-preserved c =
    has-not c.args.pieces.now c.loop-newer.newer c.end_before.result c.args.source c.args.number c.args.time _
    c.loop-newer-test.true c.loop-newer.invariant c.end_before.ensures.end (sym c.has.ensures ∙ c.if-has.false)

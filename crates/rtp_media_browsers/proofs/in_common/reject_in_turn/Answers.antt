use Rattle.rtp_media_browsers.proofs.FewerRequests.{one_more_turn}
use Rattle.rtp_media_browsers.proofs.in_common.reject_in_turn.Goals as goal

pub loop-next-preserved : goal.loop-next-preserved
loop-next-preserved c = one_more_turn c.args.offer.now c.args.state.now c.args.config.now.rows c.args.requests.items
    c.loop-next.left.items c.in_ok-next.next.items c.loop-next.invariant
    (c.in_ok-next.ensures.some c.if-not-some.false)

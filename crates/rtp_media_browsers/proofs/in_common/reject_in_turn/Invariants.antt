use Rattle.rtp_media_browsers.proofs.FewerRequests.{ComesOf, asked}
use Rattle.rtp_media_browsers.proofs.in_common.reject_in_turn.Given as goal

-- what is left comes of the requests by so many rejections
abbrev pub invariant-loop-next : goal.invariant-loop-next
invariant-loop-next l = ComesOf l.fn.offer l.fn.state l.fn.config.rows l.fn.requests.items l.left.items

abbrev pub decreases-loop-next : goal.decreases-loop-next
decreases-loop-next l = asked l.left.items

use Rattle.std.proofs.Common.{◌≡◌, ◌++◌, drop}
use Rattle.rtp_media_exchange.specs.Exchanges.{accepted_agreement}
use Rattle.rtp_media_exchange.proofs.agree.accepted_agreement.Given as goal

-- what is agreed on so far, and of the rest
abbrev pub invariant-loop-place : goal.invariant-loop-place
invariant-loop-place l =
    l.agreed.items ++ accepted_agreement (drop l.place l.wanted) (drop l.place l.answer)
    ≡ accepted_agreement l.wanted l.answer

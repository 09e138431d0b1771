use Rattle.rtp_media_runs.proofs.SecondHop.{carries-again, unchanged, units-again}
use Rattle.rtp_media_runs.proofs.second_hop.second_hop_law.Goals as goal

pub returns-clause-carries : goal.returns-clause-carries
returns-clause-carries c = carries-again c.codec_law.ensures.codec_in_forms c.codec_law.ensures.first
    c.again_law.ensures.again c.again_law.ensures.first
    (λ h samples schedule to tame. c.headline.ensures.exact h.answer h.sender h.receiver h.mid h.ssrc h.pt h.params
    samples h.holding schedule to tame)

pub returns-clause-units : goal.returns-clause-units
returns-clause-units c = units-again c.codec_law.ensures.codec_in_forms c.codec_law.ensures.first
    c.again_law.ensures.again c.again_law.ensures.first
    (λ h samples schedule to tame. c.headline.ensures.exact h.answer h.sender h.receiver h.mid h.ssrc h.pt h.params
    samples h.holding schedule to tame)

pub returns-clause-unchanged : goal.returns-clause-unchanged
returns-clause-unchanged c = λ first second samples schedule later on tame.
    unchanged c.codec_law.ensures.codec_in_forms c.codec_law.ensures.first
    c.again_law.ensures.again c.again_law.ensures.first
    (λ h samples schedule to tame. c.headline.ensures.exact h.answer h.sender h.receiver h.mid h.ssrc h.pt h.params
    samples h.holding schedule to tame) first second samples schedule on later tame

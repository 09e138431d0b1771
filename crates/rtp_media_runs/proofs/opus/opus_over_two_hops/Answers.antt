use Rattle.rtp_media_runs.specs.OpusHops.{one_arrival}
use Rattle.rtp_media_runs.proofs.SentOn.{bytes-again, sent-on, tame-again}
use Rattle.rtp_media_runs.proofs.opus.opus_over_two_hops.Goals as goal
use Rattle.std.proofs.Common.{[], ◌∷◌}

pub returns-clause-sent_on : goal.returns-clause-sent_on
returns-clause-sent_on c = sent-on c.codec_law.ensures.codec_in_forms c.codec_law.ensures.first
    (λ h samples schedule to tame. c.headline.ensures.exact h.answer h.sender h.receiver h.mid h.ssrc h.pt h.params
    samples h.holding schedule to tame)

pub returns-clause-tame : goal.returns-clause-tame
returns-clause-tame c = tame-again c.codec_law.ensures.codec_in_forms c.codec_law.ensures.first
    (λ h samples schedule to tame. c.headline.ensures.exact h.answer h.sender h.receiver h.mid h.ssrc h.pt h.params
    samples h.holding schedule to tame)

pub returns-clause-bytes : goal.returns-clause-bytes
returns-clause-bytes c = λ first second sample from to alike fits.
    bytes-again c.codec_law.ensures.codec_in_forms c.codec_law.ensures.first
    (λ h samples schedule to tame. c.headline.ensures.exact h.answer h.sender h.receiver h.mid h.ssrc h.pt h.params
    samples h.holding schedule to tame) first second sample from to alike fits
    (c.second_hop_law.ensures.unchanged first second (sample ∷ []) one_arrival one_arrival)

use Rattle.rtp_media_forward.proofs.Vp8Parts.{begins, stays-before}
use Rattle.rtp_media_forward.proofs.vp8_ids.vp8_ids_law.Goals as goal

pub returns-clause-begins : goal.returns-clause-begins
returns-clause-begins c = λ ids first payload last d is reads number low.
    begins ids first payload last d is reads number low

pub returns-clause-before : goal.returns-clause-before
returns-clause-before c = λ ids first number payload few high. stays-before ids first number payload few high

use Rattle.codec_headers.proofs.BitLemmas.{ue-long, ue-short, ue-whole}
use Rattle.codec_headers.proofs.bits.Bits.code.Goals as goal

pub returns-then-zeros-gt31 : goal.returns-then-zeros-gt31
returns-then-zeros-gt31 c = ue-long _ _ c.pass_zeros-zeros.ensures.value c.if-zeros-gt31.true

pub returns-in_err-take : goal.returns-in_err-take
returns-in_err-take c = rw c.from_residual.ensures
    (ue-short _ _ _ c.pass_zeros-zeros.ensures.value c.if-zeros-gt31.false
    c.pass_zeros-zeros.ensures.rest c.in_err-take.ensures.value)

pub returns : goal.returns
returns c = rw c.saturating_sub.ensures (ue-whole _ _ _ _ _ c.pass_zeros-zeros.ensures.value c.if-zeros-gt31.false
    c.pass_zeros-zeros.ensures.rest c.in_ok-take.ensures.value)

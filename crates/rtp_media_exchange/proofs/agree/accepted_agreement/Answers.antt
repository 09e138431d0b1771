use Rattle.std.proofs.Common.{◌≡◌, arith, sym, subst}
use Rattle.std.proofs.lemmas.Grind.{common_steps}
use Rattle.rtp_media_sections.specs.Agreement.{AgreesOn}
use Rattle.rtp_media_exchange.specs.Exchanges.{accepted_agreement}
use Rattle.rtp_media_exchange.proofs.Agreeing.{accepted_agrees}
use Rattle.rtp_media_exchange.proofs.agree.accepted_agreement.Goals as goal

pub returns-clause-agrees : goal.returns-clause-agrees
returns-clause-agrees c =
    let value : c.loop-place.agreed.items ≡ accepted_agreement c.args.wanted.now c.args.answer.now =
    grind (arith, common_steps) in
    subst (λ agreed. AgreesOn c.args.answer.now agreed) (sym value)
    (accepted_agrees c.args.wanted.now c.args.answer.now c.requires)

pub returns-in_err-agreed_by_accept-clause-value : goal.returns-in_err-agreed_by_accept-clause-value
returns-in_err-agreed_by_accept-clause-value c = grind (arith, common_steps)

pub returns-in_err-agreed_by_accept-clause-agrees : goal.returns-in_err-agreed_by_accept-clause-agrees
returns-in_err-agreed_by_accept-clause-agrees c = grind (arith, common_steps)

pub returns-in_err-push-clause-value : goal.returns-in_err-push-clause-value
returns-in_err-push-clause-value c = grind (arith, common_steps)

pub returns-in_err-push-clause-agrees : goal.returns-in_err-push-clause-agrees
returns-in_err-push-clause-agrees c = grind (arith, common_steps)

pub loop-place-preserved : goal.loop-place-preserved
loop-place-preserved c = grind (arith, common_steps)

pub returns-clause-value : goal.returns-clause-value
returns-clause-value c = grind (arith, common_steps)

use Rattle.std.proofs.Common.{◌≡◌, Err, IfErr, None, Ok, arith, map, subst, sym}
use Rattle.std.proofs.lemmas.Grind.{common_steps}
use Rattle.sdp_formats_rounds.specs.Laws.{rounds}
use Rattle.rtp_media_sections.specs.Lines.{remote_of}
use Rattle.rtp_media_exchange.specs.Refusals.{Refuses, RefusesAccept, refusal_of_accept}
use Rattle.rtp_media_exchange.proofs.Keeping.{rounds_kept}
use Rattle.rtp_media_exchange.proofs.Refusing.{may_accept, refuses_accept}
use Rattle.rtp_media_exchange.proofs.exchange.Exchange.accept.Goals as goal

pub returns-in_default-clause-refused : goal.returns-in_default-clause-refused
unfolding refusal_of_accept
returns-in_default-clause-refused c = grind (arith, common_steps)

pub returns-in_err-config-clause-refused : goal.returns-in_err-config-clause-refused
unfolding refusal_of_accept
returns-in_err-config-clause-refused c =
    let x = c.args.self.now in
    let text = c.args.text.now in
    let answer = c.in_ok-answer.answer.items in
    let e = c.in_err-config.field-0.0 in
    let why : Refuses e (refusal_of_accept x answer) = grind (arith, common_steps) in
    let is : c.from_residual-in_err-config.result ≡ Err e = grind (arith, common_steps) in
    subst (λ result. IfErr result (λ fault. RefusesAccept x text fault)) (sym is)
    (refuses_accept x text answer e c.in_ok-answer.ensures.says why)

pub returns-clause-accepted : goal.returns-clause-accepted
unfolding refusal_of_accept
returns-clause-accepted c =
    let none : refusal_of_accept c.args.self.now c.in_ok-answer.answer.items ≡ None = grind (arith, common_steps) in
    may_accept c.args.self.now c.args.text.now c.in_ok-answer.answer.items c.in_ok-answer.ensures.says none

pub invariant_of-self : goal.invariant_of-self
invariant_of-self c =
    let answer = c.in_ok-answer.answer.items in
    let before = c.self.inside.config.rows in
    let rows = c.in_ok-config.config.rows in
    let rounds_are : rounds (map remote_of answer) before ≡ Ok rows = grind (arith, common_steps) in
    rounds_kept c.read_sections_keep_rows.ensures c.self.inside.session c.self.inside.exts before rows c.args.text.now
    answer c.in_ok-answer.ensures.says rounds_are c.self.invariant

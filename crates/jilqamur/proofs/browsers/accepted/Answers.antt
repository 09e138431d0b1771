use Rattle.jilqamur.proofs.Bare.{refused_answer}
use Rattle.jilqamur.proofs.browsers.accepted.Goals as goal

pub returns-clause-refused : goal.returns-clause-refused
returns-clause-refused c = refused_answer c.args.end.now c.args.state.now c.args.answer.now _ _ _ c.in-Ok.ensures.passes
    c.as_str.ensures.value _ _ c.in-Err-accept.ensures.refused c.exchange_code.ensures

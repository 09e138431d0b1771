use Rattle.std.proofs.Common.{ap}
use Rattle.sdp_formats_rounds.specs.Configs.{Config}
use Rattle.jilqamur.proofs.Bare.{refused_offer}
use Rattle.jilqamur.proofs.browsers.answered.Goals as goal

pub returns-clause-refused : goal.returns-clause-refused
returns-clause-refused c = refused_offer c.args.end.now c.args.state.now c.args.requests.items c.args.offer.now _ _ _
    c.config.result.now.rows (ap (λ (x : Config). x.rows) c.config.ensures) c.in-Ok.ensures.handed _ _ _
    c.as_str.ensures.value c.in-Err-answer.ensures.refused c.exchange_code.ensures

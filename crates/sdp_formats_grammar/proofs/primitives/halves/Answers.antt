use Rattle.sdp_formats_grammar.proofs.Gives.{halves-split, halves-whole}
use Rattle.sdp_formats_grammar.proofs.primitives.halves.Goals as goal

pub returns-in-Some : goal.returns-in-Some
returns-in-Some c = halves-split c.args.at c.args.text.now (c.in-Some.first, c.in-Some.rest) c.requires
    c.in-Some.ensures.cases

pub returns-in-None : goal.returns-in-None
returns-in-None c = halves-whole c.args.at c.args.text.now c.requires c.in-None.ensures.cases

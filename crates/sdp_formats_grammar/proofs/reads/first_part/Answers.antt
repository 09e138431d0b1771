use Rattle.sdp_formats_grammar.proofs.Partings.{parts-split, parts-not_split}
use Rattle.sdp_formats_grammar.proofs.reads.first_part.Goals as goal

pub returns-in-Some : goal.returns-in-Some
returns-in-Some c = parts-split c.args.at c.args.text.now (c.in-Some.piece, c.in-Some.rest) c.requires
    c.in-Some.ensures.cases

pub returns-in-None : goal.returns-in-None
returns-in-None c = parts-not_split c.args.at c.args.text.now c.requires c.in-None.ensures.cases

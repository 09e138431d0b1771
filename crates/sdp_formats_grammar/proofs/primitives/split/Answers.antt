use Rattle.sdp_formats_grammar.proofs.Gives.{split-gives}
use Rattle.sdp_formats_grammar.proofs.primitives.split.Goals as goal

pub returns-clause-gives : goal.returns-clause-gives
returns-clause-gives c =
    rw c.ok_or.ensures.value (split-gives c.args.at c.args.text.now _ c.requires c.split_once.ensures.cases)

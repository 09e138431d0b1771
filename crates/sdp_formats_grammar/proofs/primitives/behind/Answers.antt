use Rattle.sdp_formats_grammar.proofs.Gives.{behind-gives}
use Rattle.sdp_formats_grammar.proofs.primitives.behind.Goals as goal

pub returns-clause-gives : goal.returns-clause-gives
returns-clause-gives c =
    rw c.ok_or.ensures.value (behind-gives c.args.words.now c.args.text.now _ c.strip_prefix.ensures.cases)

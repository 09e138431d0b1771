use Rattle.std.proofs.Common.{sym, subst}
use Rattle.sdp_formats_grammar.specs.Refusals.{Gives}
use Rattle.sdp_formats_reader.proofs.PairRounds.{pairs-are}
use Rattle.sdp_formats_reader.proofs.keyed.pairs.Goals as goal

pub returns : goal.returns
returns c = subst (λ o. Gives c.whole.result o)
    (sym (pairs-are c.args.text.now c.in_ok-pairs.pairs c.in_ok-pairs.rest.now c.in_ok-pairs.ensures)) c.whole.ensures

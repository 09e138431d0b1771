use Rattle.std.proofs.Common.{sym, subst, ◌∙◌}
use Rattle.sdp_formats_grammar.specs.Refusals.{Gives}
use Rattle.sdp_formats_reader.proofs.PairRounds.{restrictions-read}
use Rattle.sdp_formats_reader.proofs.restricted.restrictions.Goals as goal

pub returns : goal.returns
returns c = subst (λ o. Gives c.all_read.result o)
    (sym (restrictions-read c.args.text.now c.in_ok-pairs.pairs c.in_ok-pairs.rest.now
    (sym c.ends_open.ensures ∙ c.if-ends_open.false) c.in_ok-pairs.ensures)) c.all_read.ensures

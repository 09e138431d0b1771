use Rattle.std.proofs.Common.{◌∙◌}
use Rattle.words_and_replies.proofs.Counts.{count_of-parse}
use Rattle.words_and_replies.proofs.bytes.count_of.Goals as goal

pub returns : goal.returns
returns c =
    c.ok.ensures.value
    ∙ count_of-parse c.args.word.now _ c.parse.ensures.value.0
    (λ e. cc (c.has_plus.ensures.1 e, c.if-has_plus.false))

use Rattle.std.proofs.Common.{◌∙◌}
use Rattle.rtp_media_program.proofs.Numbers.{number_below-parse}
use Rattle.rtp_media_program.proofs.fields.number_of.Goals as goal

pub returns : goal.returns
returns c =
    c.ok.ensures.value
    ∙ number_below-parse c.args.word.now _ c.parse.ensures.value.0
    (λ e. cc (c.has_plus.ensures.1 e, c.if-has_plus.false))

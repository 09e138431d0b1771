use Rattle.std.proofs.Common.{◌∙◌}
use Rattle.sdp_formats_values.proofs.Digits.{numeral_below-parse}
use Rattle.sdp_formats_values.proofs.numbers.word_of.Goals as goal

pub returns : goal.returns
returns c = c.ok.ensures.value ∙ numeral_below-parse 32 10 c.args.text.now _ c.parse.ensures.value.0

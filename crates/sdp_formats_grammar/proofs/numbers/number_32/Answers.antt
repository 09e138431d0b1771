use Rattle.sdp_formats_grammar.proofs.Numerals.{number-gives}
use Rattle.sdp_formats_grammar.proofs.numbers.number_32.Goals as goal

pub returns-clause-gives : goal.returns-clause-gives
returns-clause-gives c =
    rw (c.ok_or.ensures.value, c.ok.ensures.value) (number-gives 32 c.args.text.now _ c.parse.ensures.value.0)

use Rattle.std.proofs.Common.{codes}
use Rattle.sdp_formats_grammar.specs.Form.{some_text}
use Rattle.sdp_formats_grammar.specs.Exact.{told-exact, made-exact, after-exact}
use Rattle.sdp_formats_reader.proofs.passed.RepeatLineLinedPassed.exact_law.Goals as goal

pub returns : goal.returns
returns c = after-exact (codes "r=") _ (made-exact _ _ (told-exact some_text))

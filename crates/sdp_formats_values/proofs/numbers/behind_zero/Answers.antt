use Rattle.std.proofs.Common.{lit<}
use Rattle.std.proofs.lemmas.Str.Pattern.{strip_prefix_char}
use Rattle.sdp_formats_values.proofs.Digits.{behind-strips}
use Rattle.sdp_formats_values.proofs.numbers.behind_zero.Goals as goal

pub returns : goal.returns
returns c = behind-strips 48 c.args.text.now c.strip_prefix.result
    (strip_prefix_char 48 c.args.text.now c.strip_prefix.result c.strip_prefix.ensures.cases (lit< tt))

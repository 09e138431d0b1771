use Rattle.std.proofs.Common.{sym, ap, ◌∙◌, lit<, Some, None}
use Rattle.std.proofs.lemmas.Str.Pattern.{strip_suffix_char}
use Rattle.sdp_formats_reader.specs.Pairs.{ends_open}
use Rattle.sdp_formats_reader.proofs.AttributesEnds.{ends-at, ends-none}
use Rattle.sdp_formats_reader.proofs.restricted.ends_open.Goals as goal

pub returns-in-Some : goal.returns-in-Some
returns-in-Some c = sym (ap ends_open (strip_suffix_char 59 c.args.text.now (Some c.in-Some.field-0)
    c.in-Some.ensures.cases (lit< tt)) ∙ ends-at c.in-Some.field-0.now)

pub returns-in-None : goal.returns-in-None
returns-in-None c = sym (ends-none c.args.text.now
    (strip_suffix_char 59 c.args.text.now None c.in-None.ensures.cases (lit< tt)))

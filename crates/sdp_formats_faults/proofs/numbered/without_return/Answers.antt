use Rattle.std.proofs.Common.{sym, ap, ◌∙◌, lit<, Some, None}
use Rattle.std.proofs.lemmas.Str.Pattern.{strip_suffix_char}
use Rattle.sdp_formats_grammar.specs.Line.{without_return}
use Rattle.sdp_formats_grammar.specs.LineLemmas.{without-at, without-none}
use Rattle.sdp_formats_faults.proofs.numbered.without_return.Goals as goal

pub returns-in-Some : goal.returns-in-Some
returns-in-Some c = sym (ap (λ t. without_return t)
    (strip_suffix_char 13 c.args.line.now (Some c.in-Some.line) c.in-Some.ensures.cases (lit< tt))
    ∙ without-at c.in-Some.line.now)

pub returns-in-None : goal.returns-in-None
returns-in-None c = sym (without-none c.args.line.now
    (strip_suffix_char 13 c.args.line.now None c.in-None.ensures.cases (lit< tt)))

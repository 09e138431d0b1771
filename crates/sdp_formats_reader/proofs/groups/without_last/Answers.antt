use Rattle.std.proofs.Common.{sym, ap, ◌∙◌, lit<, Some, None}
use Rattle.std.proofs.lemmas.Str.Pattern.{strip_suffix_char}
use Rattle.sdp_formats_reader.specs.Groups.{without_last}
use Rattle.sdp_formats_reader.proofs.ReaderEnds.{without-at, without-none}
use Rattle.sdp_formats_reader.proofs.groups.without_last.Goals as goal

pub returns-in-Some : goal.returns-in-Some
returns-in-Some c = sym (ap without_last
    (strip_suffix_char 32 c.args.text.now (Some c.in-Some.rest) c.in-Some.ensures.cases (lit< tt))
    ∙ without-at c.in-Some.rest.now)

pub returns-in-None : goal.returns-in-None
returns-in-None c = sym (without-none c.args.text.now
    (strip_suffix_char 32 c.args.text.now None c.in-None.ensures.cases (lit< tt)))

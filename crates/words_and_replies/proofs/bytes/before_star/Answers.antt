use Rattle.std.proofs.Common.{None, Some, lit<}
use Rattle.std.proofs.lemmas.Str.Pattern.{strip_suffix_char}
use Rattle.words_and_replies.proofs.Stars.{without_stars-starred, without_stars-plain, length-starred}
use Rattle.words_and_replies.proofs.bytes.before_star.Goals as goal

pub returns-in-Some-clause-star : goal.returns-in-Some-clause-star
returns-in-Some-clause-star c = without_stars-starred c.args.word.now c.in-Some.front.now
    (strip_suffix_char 42 c.args.word.now (Some c.in-Some.front) c.in-Some.ensures.cases (lit< tt))

pub returns-in-Some-clause-shorter : goal.returns-in-Some-clause-shorter
returns-in-Some-clause-shorter c = length-starred c.args.word.now c.in-Some.front.now
    (strip_suffix_char 42 c.args.word.now (Some c.in-Some.front) c.in-Some.ensures.cases (lit< tt))

pub returns-in-None-clause-plain : goal.returns-in-None-clause-plain
returns-in-None-clause-plain c = without_stars-plain c.args.word.now
    (strip_suffix_char 42 c.args.word.now None c.in-None.ensures.cases (lit< tt))

use Rattle.rtp_media_program.proofs.Splits.{words_of-split, words_of-whole}
use Rattle.rtp_media_program.proofs.words.split_word.Goals as goal

pub returns-in-Some : goal.returns-in-Some
returns-in-Some c = words_of-split c.args.line.now c.in-Some.word c.in-Some.rest c.in-Some.ensures.cases

pub returns-in-None : goal.returns-in-None
returns-in-None c = words_of-whole c.args.line.now c.in-None.ensures.cases

use Rattle.rtp_media_program.proofs.Splits.{plus_parts-split, plus_parts-whole}
use Rattle.rtp_media_program.proofs.sections.split_plus.Goals as goal

pub returns-in-Some : goal.returns-in-Some
returns-in-Some c = plus_parts-split c.args.text.now c.in-Some.part c.in-Some.rest c.in-Some.ensures.cases

pub returns-in-None : goal.returns-in-None
returns-in-None c = plus_parts-whole c.args.text.now c.in-None.ensures.cases

use Rattle.rtp_media_program.proofs.Splits.{colon_parts-split, colon_parts-whole}
use Rattle.rtp_media_program.proofs.sections.split_colon.Goals as goal

pub returns-in-Some : goal.returns-in-Some
returns-in-Some c = colon_parts-split c.args.text.now c.in-Some.part c.in-Some.rest c.in-Some.ensures.cases

pub returns-in-None : goal.returns-in-None
returns-in-None c = colon_parts-whole c.args.text.now c.in-None.ensures.cases

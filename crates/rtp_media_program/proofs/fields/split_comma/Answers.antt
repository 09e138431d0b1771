use Rattle.rtp_media_program.proofs.Splits.{comma_parts-split, comma_parts-whole}
use Rattle.rtp_media_program.proofs.fields.split_comma.Goals as goal

pub returns-in-Some : goal.returns-in-Some
returns-in-Some c = comma_parts-split c.args.text.now c.in-Some.part c.in-Some.rest c.in-Some.ensures.cases

pub returns-in-None : goal.returns-in-None
returns-in-None c = comma_parts-whole c.args.text.now c.in-None.ensures.cases

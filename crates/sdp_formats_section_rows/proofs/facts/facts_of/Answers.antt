use Rattle.std.proofs.Common.{arith}
use Rattle.std.proofs.lemmas.Grind.{common_steps}
use Rattle.sdp_formats_section_rows.proofs.OneWalk.{all_walked}
use Rattle.sdp_formats_section_rows.proofs.facts.facts_of.Goals as goal

pub returns : goal.returns
returns c =
    let walked = all_walked c.args.section.now.pts c.args.section.now.attrs c.args.resend_types.now
    c.args.red_types.now c.args.types.now in
    grind (arith, common_steps, walked)

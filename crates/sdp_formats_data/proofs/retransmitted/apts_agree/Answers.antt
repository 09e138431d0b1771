use Rattle.sdp_formats_data.proofs.retransmitted.apts_agree.Goals as goal
use Rattle.sdp_formats_data.proofs.Tables.{no_apts}
use Rattle.std.proofs.Common.{refl}

pub loop-attribute-init : goal.loop-attribute-init
loop-attribute-init c = (refl, no_apts c.args.attributes.now)

use Rattle.sdp_formats_rounds.proofs.Plain.{rounds_keep_widths}
use Rattle.sdp_formats_rounds.proofs.plain_laws.rounds_keep_widths.Goals as goal

pub returns : goal.returns
returns c = rounds_keep_widths

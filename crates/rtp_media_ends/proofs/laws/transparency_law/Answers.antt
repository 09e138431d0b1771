use Rattle.rtp_media_ends.proofs.Transparent.{transparent}
use Rattle.rtp_media_ends.proofs.laws.transparency_law.Goals as goal

pub returns : goal.returns
returns c = transparent c.codec_law.ensures.codec_in_forms

use Rattle.rtp_media_browsers.proofs.RoleLaws.{tells_by_levels}
use Rattle.rtp_media_browsers.proofs.laws.levels_law.Goals as goal

pub returns : goal.returns
returns c = tells_by_levels

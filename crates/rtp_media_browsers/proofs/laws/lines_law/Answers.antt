use Rattle.rtp_media_browsers.proofs.Returning.{lines_stay}
use Rattle.rtp_media_browsers.proofs.laws.lines_law.Goals as goal

pub returns : goal.returns
returns c = lines_stay

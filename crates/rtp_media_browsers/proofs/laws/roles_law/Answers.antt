use Rattle.rtp_media_browsers.proofs.RoleLaws.{roles_fit}
use Rattle.rtp_media_browsers.proofs.laws.roles_law.Goals as goal

pub returns : goal.returns
returns c = roles_fit

use Rattle.rtp_media_browsers.proofs.GoingOn.{are_wanted, goes_on, is_halted}
use Rattle.rtp_media_browsers.proofs.laws.following_law.Goals as goal

pub returns-clause-goes_on : goal.returns-clause-goes_on
returns-clause-goes_on c = goes_on

pub returns-clause-wanted : goal.returns-clause-wanted
returns-clause-wanted c = are_wanted

pub returns-clause-halted : goal.returns-clause-halted
returns-clause-halted c = is_halted

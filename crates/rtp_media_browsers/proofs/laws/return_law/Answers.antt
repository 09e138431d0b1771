use Rattle.rtp_media_browsers.proofs.Returning.{section_back}
use Rattle.rtp_media_browsers.proofs.Whole.{comes_back, nothing_changes}
use Rattle.rtp_media_browsers.proofs.laws.return_law.Goals as goal

pub returns-clause-back : goal.returns-clause-back
returns-clause-back c = comes_back

pub returns-clause-same : goal.returns-clause-same
returns-clause-same c = nothing_changes

pub returns-clause-sections : goal.returns-clause-sections
returns-clause-sections c = section_back

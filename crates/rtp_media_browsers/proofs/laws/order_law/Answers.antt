use Rattle.rtp_media_browsers.proofs.ListingLaw.{answers_list_offered}
use Rattle.rtp_media_browsers.proofs.laws.order_law.Goals as goal

pub returns : goal.returns
returns c = answers_list_offered

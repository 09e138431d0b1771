use Rattle.rtp_media_browsers.proofs.InPlace.{each_in_its_place, taken_are_rejected}
use Rattle.rtp_media_browsers.proofs.laws.places_law.Goals as goal

pub returns-clause-placed : goal.returns-clause-placed
returns-clause-placed c = each_in_its_place

pub returns-clause-rejected : goal.returns-clause-rejected
returns-clause-rejected c = taken_are_rejected

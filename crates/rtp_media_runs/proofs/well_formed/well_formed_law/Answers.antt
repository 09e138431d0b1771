use Rattle.rtp_media_runs.proofs.Carried.{pictures, sound}
use Rattle.rtp_media_runs.proofs.well_formed.well_formed_law.Goals as goal

pub returns-clause-sound : goal.returns-clause-sound
returns-clause-sound c = sound

pub returns-clause-pictures : goal.returns-clause-pictures
returns-clause-pictures c = pictures c.av1_packets_law.ensures.sample

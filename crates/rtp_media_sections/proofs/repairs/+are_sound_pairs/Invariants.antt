use Rattle.std.proofs.Common.{length}
use Rattle.rtp_media_sections.proofs.repairs.+are_sound_pairs.Given as goal

abbrev pub decreases-are_sound_pairs : goal.decreases-are_sound_pairs
decreases-are_sound_pairs l = length l.pairs.now

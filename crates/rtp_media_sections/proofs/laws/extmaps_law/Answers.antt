use Rattle.rtp_media_sections.proofs.ExtmapLemmas.{last_entries_count}
use Rattle.rtp_media_sections.proofs.laws.extmaps_law.Goals as goal

pub returns : goal.returns
returns c = last_entries_count

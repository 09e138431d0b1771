use Rattle.rtp_media_runs.proofs.DistinctNames.{names_distinct}
use Rattle.rtp_media_runs.proofs.names.names_law.Goals as goal

pub returns : goal.returns
returns c = record { exactly = names_distinct }

use Rattle.rtp_media_runs.proofs.AnsweredRows.{answered_once, types_distinct}
use Rattle.rtp_media_runs.proofs.answered.answered_rows_law.Goals as goal

pub returns : goal.returns
returns c = record { exactly = answered_once; types = types_distinct }

use Rattle.rtp_media_runs.proofs.RepeatedTypes.{first_is_repeated, none_is_repeated}
use Rattle.rtp_media_runs.proofs.types.types_law.Goals as goal

pub returns : goal.returns
returns c = record { exactly = first_is_repeated; none = none_is_repeated }

use Rattle.media_files.proofs.MkvLemmas.{pieces}
use Rattle.media_files.proofs.laws.mkv_law.Goals as goal

pub returns : goal.returns
returns c = pieces

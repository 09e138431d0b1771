use Rattle.media_files.proofs.LawLemmas.{silence-long}
use Rattle.media_files.proofs.laws.opus_laws.Goals as goal

pub returns : goal.returns
returns c = silence-long

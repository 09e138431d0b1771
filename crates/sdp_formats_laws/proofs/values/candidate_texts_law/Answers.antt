use Rattle.sdp_formats_laws.proofs.ValueTexts.{candidates_back, read_words}
use Rattle.sdp_formats_laws.proofs.values.candidate_texts_law.Goals as goal

pub returns-clause-printed : goal.returns-clause-printed
returns-clause-printed c = candidates_back

pub returns-clause-read : goal.returns-clause-read
returns-clause-read c = read_words

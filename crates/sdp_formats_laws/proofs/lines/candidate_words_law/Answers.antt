use Rattle.sdp_formats_laws.proofs.CandidateWords.{candidates_are_their_words}
use Rattle.sdp_formats_laws.proofs.lines.candidate_words_law.Goals as goal

pub returns : goal.returns
returns c = candidates_are_their_words

use Rattle.rtp_media_browsers.proofs.EachAnswered.{answers_each_section, texts_are_whole}
use Rattle.rtp_media_browsers.proofs.laws.answer_law.Goals as goal

pub returns : goal.returns
returns c = record { answers = answers_each_section; texts = texts_are_whole }

use Rattle.rtp_media_program.proofs.CommandWords.{says_what_is_read, read_what_is_said}
use Rattle.rtp_media_program.proofs.grammar.commands_are_their_words.Goals as goal

pub returns : goal.returns
returns c = λ words command. (says_what_is_read words command, read_what_is_said words command)

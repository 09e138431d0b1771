use Rattle.rtp_media_program.proofs.InputLines.{lines_of-ended, lines_of-unended}
use Rattle.rtp_media_program.proofs.input.lines_are_what_was_ended.Goals as goal

pub returns : goal.returns
returns c = record { ended = lines_of-ended; unended = lines_of-unended }

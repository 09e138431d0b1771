use Rattle.rtp_media_sections.proofs.ReadRounds.{keep_rows}
use Rattle.rtp_media_sections.proofs.rounds.read_sections_keep_rows.Goals as goal

pub returns : goal.returns
returns c = keep_rows c.read_lines_law.ensures c.sound_rows_law.ensures c.rounds_keep_plain_rows.ensures
    c.types_stay_apart.ensures.rounds

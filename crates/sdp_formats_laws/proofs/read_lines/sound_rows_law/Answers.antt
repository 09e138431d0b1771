use Rattle.sdp_formats_laws.proofs.SoundRows.{sound_rows}
use Rattle.sdp_formats_laws.proofs.read_lines.sound_rows_law.Goals as goal

pub returns : goal.returns
returns c = sound_rows

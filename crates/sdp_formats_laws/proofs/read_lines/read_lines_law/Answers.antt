use Rattle.sdp_formats_laws.proofs.SoundLines.{read_lines_sound}
use Rattle.sdp_formats_laws.proofs.read_lines.read_lines_law.Goals as goal

pub returns : goal.returns
returns c = read_lines_sound

use Rattle.packet_info.proofs.FormatLaw.{follows_formats}
use Rattle.packet_info.proofs.UnitLaw.{follows_units}
use Rattle.packet_info.proofs.laws.packet_info_law.Goals as goal

pub returns : goal.returns
returns c = record { formats = follows_formats; units = follows_units }

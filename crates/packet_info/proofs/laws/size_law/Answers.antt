use Rattle.packet_info.proofs.SizeLaw.{follows_sizes}
use Rattle.packet_info.proofs.laws.size_law.Goals as goal

pub returns : goal.returns
returns c = follows_sizes

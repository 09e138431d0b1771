use Rattle.std.proofs.Common.{arith}
use Rattle.std.proofs.lemmas.Grind.{common_steps}
use Rattle.sdp_formats_reader.specs.Pairs.{pair_at}
use Rattle.sdp_formats_reader.proofs.keyed.pair_at.Goals as goal

pub returns : goal.returns
unfolding pair_at
returns c = grind (arith, common_steps)

use Rattle.std.proofs.Common.{refl, arith}
use Rattle.payload_core_audio.proofs.DistanceLemmas.{distances-from}
use Rattle.payload_core_audio.proofs.sender.RedSender.are_distances.Goals as goal

pub returns : goal.returns
returns c = (
  λ _. distances-from c.args.distances.now (λ k below. c.loop-distance.invariant.above k (omega arith)),
  λ _. refl,
)

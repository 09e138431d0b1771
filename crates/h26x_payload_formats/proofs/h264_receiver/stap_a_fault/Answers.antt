use Rattle.std.proofs.Common.{arith}
use Rattle.h26x_payload_formats.proofs.StapALemmas.{units_fit}
use Rattle.h26x_payload_formats.proofs.h264_receiver.stap_a_fault.Goals as goal

pub split_at-requires : goal.split_at-requires
split_at-requires c = omega (arith, c.sized_len.ensures, units_fit c.args.body.now)

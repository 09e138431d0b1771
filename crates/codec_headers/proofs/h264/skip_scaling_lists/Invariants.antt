use Rattle.std.proofs.Common.{◌≡◌, ◌-◌}
use Rattle.codec_headers.specs.Bits.{times}
use Rattle.codec_headers.specs.H264.{scaling_list}
use Rattle.codec_headers.proofs.h264.skip_scaling_lists.Given as goal

abbrev pub invariant-loop-passed : goal.invariant-loop-passed
invariant-loop-passed l =
    times l.lists (scaling_list l.count) l.initial.bits ≡ times (l.lists - l._passed) (scaling_list l.count) l.bits

use Rattle.std.proofs.Common.{◌≡◌, ◌-◌, ◌<◌}
use Rattle.codec_headers.specs.H264.{scales}
use Rattle.codec_headers.proofs.h264.skip_scales.Given as goal

abbrev pub invariant-loop-passed : goal.invariant-loop-passed
invariant-loop-passed l = record {
  same : scales l.count 8 l.initial.bits ≡ scales (l.count - l._passed) l.last l.bits;
  small : l.last < 256;
}

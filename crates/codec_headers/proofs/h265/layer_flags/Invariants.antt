use Rattle.std.proofs.Common.{◌≡◌, ◌-◌, ◌*◌, ◌≤◌}
use Rattle.codec_headers.specs.H265.{layer_flags}
use Rattle.codec_headers.proofs.h265.layer_flags.Given as goal

abbrev pub invariant-loop-passed : goal.invariant-loop-passed
invariant-loop-passed l = record {
  same : layer_flags l.count 0 l.initial.bits ≡ layer_flags (l.count - l._passed) l.sum l.bits;
  few : l.sum ≤ 96 * l._passed;
}

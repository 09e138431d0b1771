use Rattle.std.proofs.Common.{◌≡◌, ◌-◌}
use Rattle.codec_headers.specs.Av1.{pass_point}
use Rattle.codec_headers.specs.Bits.{times}
use Rattle.codec_headers.proofs.av1.skip_points.Given as goal

abbrev pub invariant-loop-passed : goal.invariant-loop-passed
invariant-loop-passed l = times l.count (pass_point l.width l.has_display) l.initial.bits
    ≡ times (l.count - l._passed) (pass_point l.width l.has_display) l.bits

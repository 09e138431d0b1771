use Rattle.std.proofs.Common.{◌≡◌, ◌-◌}
use Rattle.codec_headers.specs.Bits.{pass_code, times}
use Rattle.codec_headers.proofs.bits.Bits.skip_codes.Given as goal

abbrev pub invariant-loop-passed : goal.invariant-loop-passed
invariant-loop-passed l = times l.count pass_code l.initial.self ≡ times (l.count - l._passed) pass_code l.self

use Rattle.std.proofs.Common.{◌≡◌, ◌-◌, ◌<◌, ◌^◌}
use Rattle.media_files.specs.Ebml.{bits_from, double_bits}
use Rattle.media_files.proofs.ebml.double_bits.Given as goal

-- doubled so often, the number has the same bits as at first
abbrev pub invariant-loop-doubled : goal.invariant-loop-doubled
invariant-loop-doubled l = record {
  small : l.number < 2 ^ 53;
  same : bits_from (53 - l.doubled) l.number ≡ double_bits l.fn.number;
}

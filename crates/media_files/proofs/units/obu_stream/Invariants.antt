use Rattle.std.proofs.Common.{◌≡◌, ◌++◌, map, drop}
use Rattle.media_files.specs.Units.{obu_stream_of}
use Rattle.media_files.proofs.units.obu_stream.Given as goal

-- what is written, and what the units left become
abbrev pub invariant-loop-unit : goal.invariant-loop-unit
invariant-loop-unit l = l.out.items ++ obu_stream_of (map (λ u. u.now) (drop l.unit-index l.units))
    ≡ obu_stream_of (map (λ u. u.now) l.units)

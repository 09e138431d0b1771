use Rattle.std.proofs.Common.{◌≡◌, ◌++◌, map, drop}
use Rattle.media_files.specs.Units.{annex_b_of}
use Rattle.media_files.proofs.units.annex_b.Given as goal

-- what is written, and what the units left become
abbrev pub invariant-loop-unit : goal.invariant-loop-unit
invariant-loop-unit l = l.out.items ++ annex_b_of (map (λ u. u.now) (drop l.unit-index l.units))
    ≡ annex_b_of (map (λ u. u.now) l.units)

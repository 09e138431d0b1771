-- What cutting a sample into units counts.
use Rattle.std.specs.Prelude.{◌≡◌, ℕ}
use Rattle.benchmarks.specs.Tallies.{tally_with_all}
use Rattle.benchmarks.specs.declared.tally.Tally.{Tally}
use Rattle.h26x_payload_units.specs.Units.{units_of}
use Rattle.benchmarks.specs.declared.cut.Cutting.{Cutting}

-- The units of the sample are counted, with their bytes.
abbrev pub CountsUnits : Cutting → ℕ → Tally → Cutting → Tally → Type 0
CountsUnits old number before new after = (new ≡ old) × (after ≡ tally_with_all before (units_of old.sample.now))

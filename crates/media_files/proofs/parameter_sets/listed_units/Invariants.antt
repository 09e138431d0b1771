use Rattle.std.proofs.Common.{◌≡◌, ◌<◌, ◌++◌, drop, length, map}
use Rattle.std.specs.List.{All}
use Rattle.base64.specs.Engines.{standard}
use Rattle.base64.specs.GeneralPurpose.{encode_of}
use Rattle.media_files.specs.ParameterSets.{texts_of}
use Rattle.media_files.proofs.parameter_sets.listed_units.Given as goal

-- the texts of the units, and what is left
abbrev pub invariant-loop-one : goal.invariant-loop-one
invariant-loop-one l = record {
  texts : map (λ unit. encode_of standard unit.items) l.units.items ++ map (λ x. x.now) (drop l.one-index l.one-items)
      ≡ texts_of l.text;
  some : All (λ unit. 0 < length unit.items) l.units.items;
}

use Rattle.std.proofs.Common.{◌≡◌, drop}
use Rattle.std.specs.Prelude.{IsPermutation}
use Rattle.rtp_wire.specs.Maps.{remapped}
use Rattle.rtp_wire.proofs.map.ExtensionMap.remap.Given as goal

-- the other pairs still come
abbrev pub invariant-loop-id : goal.invariant-loop-id
invariant-loop-id l = record {
  value : remapped l.self (drop l.id-index l.pairs) ≡ remapped l.fn.self l.pairs;
  same : IsPermutation l.fn.self l.self;
}

-- How a line's keys are hashed.
use Rattle.std.specs.Prelude.{List, fold}
use Rattle.std.specs.Hash.DefaultHasher.{initial, write}
use Rattle.std.specs.declared.hash.DefaultHasher.{DefaultHasher}
use Rattle.sdp_formats_values.specs.declared.pairs.Pair.{Pair}

-- A hasher that has read the keys of these pairs, one after the other.
abbrev pub with_keys : List Pair → DefaultHasher
with_keys pairs = fold (λ hasher pair. write hasher pair.key) initial pairs

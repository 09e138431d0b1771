use Rattle.std.proofs.Common.{◌≡◌, ◌++◌}
use Rattle.payload_core_audio.specs.AmrWb.{bytes_from}
use Rattle.payload_core_audio.specs.BitBytes.{bits_from}
use Rattle.payload_core_audio.specs.BitPlaces.{place_of}
use Rattle.payload_core_audio.proofs.field.push_bytes.Given as goal

-- the bytes so far
abbrev pub invariant-loop-k : goal.invariant-loop-k
invariant-loop-k l = l.out.items ≡ l.fn.out.items ++ bytes_from (bits_from l.bytes (place_of l.place)) l.k

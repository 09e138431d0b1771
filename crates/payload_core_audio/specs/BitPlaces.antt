use Rattle.std.specs.Prelude.{ℕ, ◌+◌, ◌*◌}
use Rattle.payload_core_audio.specs.declared.bits.BitPlace.{BitPlace}

-- A bit position as the number of bits before it.
abbrev pub place_of : BitPlace → ℕ
place_of p = 8 * p.octet + p.bit

use Rattle.std.proofs.Common.{◌≡◌, ◌-◌, ◌++◌, length, take, map, replicate, min}
use Rattle.rtp_wire.specs.Name.{name_byte}
use Rattle.rtp_wire.proofs.names.write_name.Given as goal

-- the front of the text is written
abbrev pub invariant-loop-i : goal.invariant-loop-i
invariant-loop-i l = record {
  len : l.len ≡ min (length l.fn.bytes) (length l.text);
  written : l.bytes ≡ map name_byte (take l.i l.text) ++ replicate (length l.fn.bytes - l.i) 0;
}

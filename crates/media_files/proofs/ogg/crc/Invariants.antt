use Rattle.std.proofs.Common.{◌≡◌, drop}
use Rattle.media_files.specs.Ogg.{crc}
use Rattle.media_files.proofs.ogg.crc.Given as goal

-- the bytes left give the remainder of all
abbrev pub invariant-loop-byte : goal.invariant-loop-byte
invariant-loop-byte l = crc l.remainder (drop l.byte-index l.bytes) ≡ crc l.fn.remainder l.bytes

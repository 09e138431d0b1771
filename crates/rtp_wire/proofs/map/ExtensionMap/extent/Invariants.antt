use Rattle.std.proofs.Common.{◌≡◌, ◌+◌, ◌*◌, ◌≤◌, true, false, length}
use Rattle.rtp_wire.specs.Elements.{elements_to, elements_text, are_one_byte}
use Rattle.rtp_wire.specs.Seen.{HasSeen}
use Rattle.rtp_wire.proofs.map.ExtensionMap.extent.Given as goal

-- the first places are counted
abbrev pub invariant-loop-place : goal.invariant-loop-place
invariant-loop-place l = record {
  seen : HasSeen l.seen l.self l.place;
  fits : l.extent.fits ≡ are_one_byte (elements_to l.self l.values l.place);
  one_byte : l.extent.count + l.extent.bytes ≡ length (elements_text true (elements_to l.self l.values l.place));
  two_byte : 2 * l.extent.count + l.extent.bytes
      ≡ length (elements_text false (elements_to l.self l.values l.place));
  few : l.extent.count ≤ l.place;
  short : l.extent.bytes ≤ 16 * l.place;
}

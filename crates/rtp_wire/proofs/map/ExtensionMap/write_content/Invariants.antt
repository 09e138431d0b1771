use Rattle.std.proofs.Common.{◌≡◌, ℕ, ◌+◌, ◌++◌, List, length}
use Rattle.rtp_wire.specs.Elements.{elements_to, elements_text}
use Rattle.rtp_wire.specs.Written.{IsWritten}
use Rattle.rtp_wire.specs.Seen.{HasSeen}
use Rattle.rtp_wire.proofs.map.ExtensionMap.write_content.Given as goal

-- the first places are written
abbrev pub invariant-loop-place : goal.invariant-loop-place
invariant-loop-place l = record {
  seen : HasSeen l.seen l.self l.place;
  end : l.end ≡ l.at + length (elements_text l.one_byte (elements_to l.self l.values l.place));
  room : length l.buf ≡ length l.fn.buf;
  written : (text before : List ℕ) → IsWritten text before l.fn.buf → l.at ≡ length text →
      IsWritten (text ++ elements_text l.one_byte (elements_to l.self l.values l.place)) before l.buf;
}

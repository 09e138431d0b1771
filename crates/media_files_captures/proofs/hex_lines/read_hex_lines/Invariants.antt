use Rattle.std.proofs.Common.{◌+◌, ◌≤◌, length, map}
use Rattle.media_files_captures.specs.HexLines.{datagram_shown}
use Rattle.media_files_captures.proofs.HexLemmas.{IsReadTo}
use Rattle.media_files_captures.proofs.hex_lines.read_hex_lines.Given as goal

-- the lines so far gave these datagrams
abbrev pub invariant-loop-rest : goal.invariant-loop-rest
invariant-loop-rest l = record {
  few : l.number + length l.rest ≤ length l.text;
  sofar : IsReadTo l.text (map datagram_shown l.datagrams.items) l.number l.rest;
}

abbrev pub decreases-loop-rest : goal.decreases-loop-rest
decreases-loop-rest l = length l.rest

use Rattle.std.proofs.Common.{length, map}
use Rattle.media_files_captures.specs.Runs.{Holds}
use Rattle.media_files_captures.specs.Rtpdump.{datagram_seen, rtpdump_record}
use Rattle.media_files_captures.proofs.rtpdump.read_rtpdump_records.Given as goal

-- the datagrams so far, and what is left
abbrev pub invariant-loop-datagram : goal.invariant-loop-datagram
invariant-loop-datagram l = Holds rtpdump_record l.initial.unread (map datagram_seen l.datagrams.items) l.unread

abbrev pub decreases-loop-datagram : goal.decreases-loop-datagram
decreases-loop-datagram l = length l.unread

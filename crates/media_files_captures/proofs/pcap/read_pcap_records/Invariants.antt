use Rattle.std.proofs.Common.{length, map}
use Rattle.media_files_captures.specs.Captures.{seen}
use Rattle.media_files_captures.specs.Runs.{Holds}
use Rattle.media_files_captures.specs.Pcap.{pcap_record}
use Rattle.media_files_captures.proofs.pcap.read_pcap_records.Given as goal

-- the packets so far, and what is left
abbrev pub invariant-loop-packet : goal.invariant-loop-packet
invariant-loop-packet l = Holds (pcap_record l.header) l.initial.unread (map seen l.packets.items) l.unread

abbrev pub decreases-loop-packet : goal.decreases-loop-packet
decreases-loop-packet l = length l.unread

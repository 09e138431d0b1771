use Rattle.std.proofs.Common.{sym}
use Rattle.media_files_captures.specs.Captures.{seen}
use Rattle.media_files_captures.specs.Pcap.{pcap_record}
use Rattle.media_files_captures.proofs.RunLemmas.{seen-push}
use Rattle.media_files_captures.proofs.pcap.read_pcap_records.Goals as goal

pub loop-packet-preserved : goal.loop-packet-preserved
loop-packet-preserved c =
    seen-push seen (pcap_record c.args.header) c.args.bytes.now c.loop-packet.packets.items
    c.push.new.self.items c.in-Some.packet c.loop-packet.unread.now c.in-Some.behind.now
    c.in_ok-push.ensures.items c.loop-packet.invariant (sym c.in-Some.ensures.value)

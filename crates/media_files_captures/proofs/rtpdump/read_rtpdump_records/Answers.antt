use Rattle.std.proofs.Common.{sym}
use Rattle.media_files_captures.specs.Rtpdump.{datagram_seen, rtpdump_record}
use Rattle.media_files_captures.proofs.RunLemmas.{seen-push}
use Rattle.media_files_captures.proofs.rtpdump.read_rtpdump_records.Goals as goal

pub loop-datagram-preserved : goal.loop-datagram-preserved
loop-datagram-preserved c =
    seen-push datagram_seen rtpdump_record c.args.bytes.now c.loop-datagram.datagrams.items
    c.push.new.self.items c.in-Some.datagram c.loop-datagram.unread.now
    c.in-Some.behind.now c.in_ok-push.ensures.items c.loop-datagram.invariant
    (sym c.in-Some.ensures.value)

use Rattle.std.proofs.Common.{◌≡◌, length}
use Rattle.rtp_media_nack.specs.Histories.{bytes_of, gone_after, newest_fitting}
use Rattle.rtp_media_nack.proofs.history.trim.Given as goal

abbrev pub invariant-loop-packets : goal.invariant-loop-packets
invariant-loop-packets l = record {
  counted : l.bytes ≡ bytes_of l.packets.entries;
  packets : newest_fitting l.most l.most_bytes l.packets.entries
      ≡ newest_fitting l.most l.most_bytes l.initial.packets.entries;
  gone : gone_after l.most l.most_bytes l.gone l.packets.entries
      ≡ gone_after l.most l.most_bytes l.initial.gone l.initial.packets.entries;
}

abbrev pub decreases-loop-packets : goal.decreases-loop-packets
decreases-loop-packets l = length l.packets.entries

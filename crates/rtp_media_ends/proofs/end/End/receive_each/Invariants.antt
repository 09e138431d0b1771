use Rattle.std.proofs.Common.{◌≡◌, ◌++◌, drop, take}
use Rattle.rtp_media_ends.specs.FullArrival.{verdicts_of, after_datagrams}
use Rattle.rtp_media_ends.proofs.end.End.receive_each.Given as goal

-- what was done, and then the rest, is the whole
abbrev pub invariant-loop-datagram : goal.invariant-loop-datagram
invariant-loop-datagram l = record {
  after : after_datagrams l.self (drop l.datagram-index l.datagrams) ≡ after_datagrams l.initial.self l.datagrams;
  verdicts : l.verdicts.items ++ verdicts_of l.self (drop l.datagram-index l.datagrams)
      ≡ verdicts_of l.initial.self l.datagrams;
  so_far : l.self ≡ after_datagrams l.initial.self (take l.datagram-index l.datagrams);
}

use Rattle.std.proofs.Common.{sym, ap, length, refl}
use Rattle.rtp_media_nack.proofs.Fitting.{bytes-insert, kept-held}
use Rattle.rtp_media_nack.proofs.history.PacketHistory.keep.Goals as goal

pub returns-then-contains_key-clause-kept : goal.returns-then-contains_key-clause-kept
returns-then-contains_key-clause-kept c =
    rw (← c.self.view_is) (sym (kept-held _ c.args.number c.args.datagram.now c.self.invariant.1
    (sym c.if-contains_key.ensures)))

pub trim-requires : goal.trim-requires
trim-requires c = record {
  counted =
      let b = bytes-insert c.args.number c.in_ok-copy.copy c.self.inside.packets.entries
      (sym c.if-contains_key.ensures) in
      let i = c.self.invariant.0 in
      let l = ap length c.in_ok-copy.ensures in
      rw c.in_ok-insert.ensures.entries (rw b (rw (i, l) refl));
}

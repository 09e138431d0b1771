use Rattle.std.proofs.Common.{◌<◌, length, arith}
use Rattle.rtp_media_nack.proofs.Rising.{turn-yes, turn-no, turn-after}
use Rattle.rtp_media_nack.proofs.requests.NackRequester.ask.Goals as goal
use Rattle.rtp_media_nack.proofs.requests.NackRequester.ask.Goals.{then-is_due+in_ok-push, else-is_due}

pub loop-number-preserved : goal.loop-number-preserved
loop-number-preserved c =
    let l : c.loop-number.number-index < length c.args.missing.now = omega arith in
    record {
      due = elim c.if-is_due.branch [
        | then-is_due+in_ok-push w ↦ rw w.numbers-is (turn-yes c.args.self.now _ c.args.now c.args.round_trip
            c.args.missing.now
            c.loop-number.number-index c.request-request.result c.is_due.result c.loop-number.numbers.items _ l
            c.self.view_is
            c.request-request.ensures c.is_due.ensures w.if-is_due.true c.loop-number.invariant.due
            w.in_ok-push.ensures.items)
        | else-is_due w ↦ rw w.numbers-is (turn-no c.args.self.now _ c.args.now c.args.round_trip c.args.missing.now
            c.loop-number.number-index c.request-request.result c.is_due.result c.loop-number.numbers.items l
            c.self.view_is
            c.request-request.ensures c.is_due.ensures w.if-is_due.false c.loop-number.invariant.due)
      ];
      after = turn-after c.args.self.now _ c.args.now c.args.round_trip c.args.missing.now
          c.loop-number.number-index c.request-request.result c.after_turn-next.result c.loop-number.requests.entries _
          c.requires.rising l c.self.view_is c.request-request.ensures c.after_turn-next.ensures
          c.loop-number.invariant.after c.in_ok-insert.ensures.entries;
    }

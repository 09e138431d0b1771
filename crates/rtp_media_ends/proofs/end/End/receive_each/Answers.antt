use Rattle.std.proofs.Common.{◌≡◌, ◌+◌, arith, take, Result, Ok, Err, OnErr}
use Rattle.std.proofs.lemmas.Grind.{common_steps}
use Rattle.rtp_media_ends.specs.FullArrival.{ReceivesSome, after_datagrams}
use Rattle.rtp_media_ends.proofs.Stopping.{received-more}
use Rattle.rtp_media_ends.proofs.end.End.receive_each.Goals as goal

whatever : {A E : Type 0} {X : Type 0} (r : Result A E) → X → OnErr r X
whatever (Ok a) x = tt
whatever (Err e) x = x

pub returns-in_err-push-clause-some : goal.returns-in_err-push-clause-some
returns-in_err-push-clause-some c =
    let after : c.receive.new.self ≡ after_datagrams c.args.self.now (take (c.loop-datagram.datagram-index + 1)
    c.args.datagrams.now) =
    received-more c.args.datagrams.now c.args.self.now c.loop-datagram.self c.receive.new.self
    c.loop-datagram.datagram-index c.datagram-item.result c.as_slice.result.now
    c.loop-datagram.invariant.so_far c.loop-datagram-test.true c.datagram-item.is c.as_slice.ensures
    c.in_ok-verdict.ensures.after in
    let some : ReceivesSome c.args.self.now c.args.datagrams.now c.receive.new.self = record {
      count = c.loop-datagram.datagram-index + 1;
      place = omega (arith, c.loop-datagram-test.true);
      after_is = after;
    } in
    whatever _ some

pub loop-datagram-preserved : goal.loop-datagram-preserved
loop-datagram-preserved c = record {
  after = grind (arith, common_steps);
  verdicts = grind (arith, common_steps);
  so_far = received-more c.args.datagrams.now c.args.self.now c.loop-datagram.self c.receive.new.self
      c.loop-datagram.datagram-index c.datagram-item.result c.as_slice.result.now
      c.loop-datagram.invariant.so_far c.loop-datagram-test.true c.datagram-item.is c.as_slice.ensures
      c.in_ok-verdict.ensures.after;
}

pub returns-in_err-verdict-clause-verdicts : goal.returns-in_err-verdict-clause-verdicts
returns-in_err-verdict-clause-verdicts c = grind (arith, common_steps)

pub returns-in_err-verdict-clause-after : goal.returns-in_err-verdict-clause-after
returns-in_err-verdict-clause-after c = grind (arith, common_steps)

pub returns-in_err-push-clause-verdicts : goal.returns-in_err-push-clause-verdicts
returns-in_err-push-clause-verdicts c = grind (arith, common_steps)

pub returns-in_err-push-clause-after : goal.returns-in_err-push-clause-after
returns-in_err-push-clause-after c = grind (arith, common_steps)

pub returns-clause-verdicts : goal.returns-clause-verdicts
returns-clause-verdicts c = grind (arith, common_steps)

pub returns-clause-after : goal.returns-clause-after
returns-clause-after c = grind (arith, common_steps)

pub returns-clause-some : goal.returns-clause-some
returns-clause-some c = grind (arith, common_steps)

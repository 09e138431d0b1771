use Rattle.std.proofs.Common.{[], ◌∷◌, OnErr, Result, Some, Ok, Err, sym, subst}
use Rattle.std.proofs.Common.{append-nil}
use Rattle.rtp_media_streams.specs.Polls.{Answers, Faults, HandsOut, IsPolled, NoMore, Once, Short, Silent, WantsMemory}
use Rattle.rtp_media_streams.specs.Polls.{poll_step}
use Rattle.rtp_media_streams.specs.declared.errors.PollFault.TheVariants.{Memory, Payload}
use Rattle.rtp_media_streams.proofs.Polling.{fewer-held, polled_more}
use Rattle.rtp_media_streams.proofs.receiver.ReceivingStream.poll_all.Goals as goal

pub loop-answers-init : goal.loop-answers-init
loop-answers-init c = record { so = λ more after rest. rw c.new-answers.ensures.items rest; some = λ after rest. rest }

pub returns-in-Ok-None-clause-polled : goal.returns-in-Ok-None-clause-polled
returns-in-Ok-None-clause-polled c = subst (λ (os : Answers). IsPolled poll_step c.args.self.now os c.poll.new.self)
    (append-nil c.loop-answers.answers.items)
    (c.loop-answers.invariant.so [] c.poll.new.self
    (Silent (rw (c.in-Ok-None.is, c.in-Ok-None.field-0-is) at c.poll.ensures.answers)))

pub loop-answers-smaller-in-Continue-1 : goal.loop-answers-smaller-in-Continue-1
loop-answers-smaller-in-Continue-1 c =
    fewer-held c.loop-answers.self c.poll.new.self (Ok (Some c.in-Ok-Some.unit))
    (rw (c.in-Ok-Some.is, c.in-Ok-Some.field-0-is) at c.poll.ensures.answers) (λ is. cc)

pub loop-answers-preserved-in-Continue-1 : goal.loop-answers-preserved-in-Continue-1
loop-answers-preserved-in-Continue-1 c = record {
  so = polled_more poll_step c.args.self.now c.loop-answers.self c.poll.new.self (Ok c.in-Ok-Some.unit)
      c.loop-answers.answers.items c.push.new.self.items
      (λ more after. HandsOut (rw (c.in-Ok-Some.is, c.in-Ok-Some.field-0-is) at c.poll.ensures.answers))
      c.in_ok-push-in-Ok-Some.ensures.items c.loop-answers.invariant.so;
  some = λ after rest. c.loop-answers.invariant.some after
      (Once (rw (c.in-Ok-Some.is, c.in-Ok-Some.field-0-is) at c.poll.ensures.answers) rest);
}

pub loop-answers-smaller : goal.loop-answers-smaller
loop-answers-smaller c =
    fewer-held c.loop-answers.self c.poll.new.self (Err c.in-Err-Payload.error)
    (rw (c.in-Err-Payload.is, c.in-Err-Payload.field-0-is) at c.poll.ensures.answers) (λ is. cc)

pub loop-answers-preserved : goal.loop-answers-preserved
loop-answers-preserved c = record {
  so = polled_more poll_step c.args.self.now c.loop-answers.self c.poll.new.self (Err (Payload c.in-Err-Payload.error))
      c.loop-answers.answers.items c.push-in-Err-Payload.new.self.items
      (λ more after. Faults (rw (c.in-Err-Payload.is, c.in-Err-Payload.field-0-is) at c.poll.ensures.answers))
      c.in_ok-push-in-Err-Payload.ensures.items c.loop-answers.invariant.so;
  some = λ after rest. c.loop-answers.invariant.some after
      (Once (rw (c.in-Err-Payload.is, c.in-Err-Payload.field-0-is) at c.poll.ensures.answers) rest);
}

pub returns-in-Err-Memory-clause-polled : goal.returns-in-Err-Memory-clause-polled
returns-in-Err-Memory-clause-polled c = subst (λ (os : Answers). IsPolled poll_step c.args.self.now os c.poll.new.self)
    (sym c.in_ok-push-in-Err-Memory.ensures.items)
    (c.loop-answers.invariant.so (Err Memory ∷ []) c.poll.new.self
    (WantsMemory (rw (c.in-Err-Memory.is, c.in-Err-Memory.field-0-is) at c.poll.ensures.answers)))

whatever : {A E : Type 0} {X : Type 0} (r : Result A E) → X → OnErr r X
whatever (Ok a) x = tt
whatever (Err e) x = x

pub returns-in_err-push-in-Ok-Some-clause-some : goal.returns-in_err-push-in-Ok-Some-clause-some
returns-in_err-push-in-Ok-Some-clause-some c = whatever _ (c.loop-answers.invariant.some c.poll.new.self
    (Once (rw (c.in-Ok-Some.is, c.in-Ok-Some.field-0-is) at c.poll.ensures.answers) NoMore))

pub returns-in_err-push-in-Err-Payload-clause-some : goal.returns-in_err-push-in-Err-Payload-clause-some
returns-in_err-push-in-Err-Payload-clause-some c = whatever _ (c.loop-answers.invariant.some c.poll.new.self
    (Once (rw (c.in-Err-Payload.is, c.in-Err-Payload.field-0-is) at c.poll.ensures.answers) NoMore))

pub returns-in_err-push-in-Err-Memory-clause-some : goal.returns-in_err-push-in-Err-Memory-clause-some
returns-in_err-push-in-Err-Memory-clause-some c = whatever _ (c.loop-answers.invariant.some c.poll.new.self
    (Short (rw (c.in-Err-Memory.is, c.in-Err-Memory.field-0-is) at c.poll.ensures.answers)))

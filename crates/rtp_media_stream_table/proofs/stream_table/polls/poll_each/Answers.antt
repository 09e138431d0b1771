use Rattle.std.proofs.Common.{◌≡◌, ◌<◌, ◌∙◌, arith, length, subst, Result, Ok, Err, OnErr}
use Rattle.std.proofs.lemmas.Grind.{common_steps}
use Rattle.rtp_media_stream_table.specs.declared.open_stream.OpenStream.{OpenStream}
use Rattle.rtp_media_stream_table.specs.Streams.{nth_stream}
use Rattle.rtp_media_stream_table.specs.Polled.{AnswersSome}
use Rattle.rtp_media_stream_table.proofs.PolledSome.{out-some, stopped-at}
use Rattle.rtp_media_stream_table.proofs.stream_table.polls.poll_each.Goals as goal

whatever : {A E : Type 0} {X : Type 0} (r : Result A E) → X → OnErr r X
whatever (Ok a) x = tt
whatever (Err e) x = x

pub returns-in_err-answers-clause-some : goal.returns-in_err-answers-clause-some
returns-in_err-answers-clause-some c =
    let here : c.index_mut-stream.result.now ≡ nth_stream c.loop-number.streams.items c.loop-number.number =
    grind (arith, common_steps) in
    let lt : c.loop-number.number < length c.args.streams.now.items = grind (arith, common_steps) in
    let was : AnswersSome (nth_stream c.args.streams.now.items c.loop-number.number) c.poll_out.new.stream =
    subst (λ (x : OpenStream). AnswersSome x c.poll_out.new.stream)
    (here ∙ c.loop-number.invariant.ahead c.loop-number.number (omega arith)) c.in_err-answers.ensures.some in
    whatever _ (stopped-at c.args.streams.now.items c.loop-number.streams.items c.loop-number.polls.items
    c.loop-number.number c.loop-number.invariant.streams c.loop-number.invariant.done c.loop-number.invariant.ahead
    c.poll_out.new.stream lt was)

pub returns-in_err-push-clause-some : goal.returns-in_err-push-clause-some
returns-in_err-push-clause-some c =
    let here : c.index_mut-stream.result.now ≡ nth_stream c.loop-number.streams.items c.loop-number.number =
    grind (arith, common_steps) in
    let lt : c.loop-number.number < length c.args.streams.now.items = grind (arith, common_steps) in
    let was : AnswersSome (nth_stream c.args.streams.now.items c.loop-number.number) c.poll_out.new.stream =
    subst (λ (x : OpenStream). AnswersSome x c.poll_out.new.stream)
    (here ∙ c.loop-number.invariant.ahead c.loop-number.number (omega arith))
    (out-some c.index_mut-stream.result.now c.poll_out.new.stream c.in_ok-answers.answers
    c.in_ok-answers.ensures.out) in
    whatever _ (stopped-at c.args.streams.now.items c.loop-number.streams.items c.loop-number.polls.items
    c.loop-number.number c.loop-number.invariant.streams c.loop-number.invariant.done c.loop-number.invariant.ahead
    c.poll_out.new.stream lt was)

pub returns-in_err-answers-clause-out : goal.returns-in_err-answers-clause-out
returns-in_err-answers-clause-out c = grind (arith, common_steps)

pub returns-in_err-push-clause-out : goal.returns-in_err-push-clause-out
returns-in_err-push-clause-out c = grind (arith, common_steps)

pub loop-number-preserved : goal.loop-number-preserved
loop-number-preserved c = grind (arith, common_steps)

pub returns-clause-out : goal.returns-clause-out
returns-clause-out c = grind (arith, common_steps)

pub returns-clause-some : goal.returns-clause-some
returns-clause-some c = grind (arith, common_steps)

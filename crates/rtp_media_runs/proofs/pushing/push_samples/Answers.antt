use Rattle.std.proofs.Common.{◌≡◌, ℕ, List, ◌++◌, ap, refl, ◌∙◌, Result, Ok, Err, IfErr, Some, None}
use Rattle.rtp_media_streams.specs.declared.errors.SampleError.{SampleError}
use Rattle.rtp_media_streams.specs.declared.errors.SampleError.TheVariants.{Memory}
use Rattle.rtp_media_ends.specs.Ends.{sender_at, with_sender}
use Rattle.rtp_media_runs.proofs.Pushes.{datagrams_for, fails-at, pushed-more, refusal_for, refused-at, stepped}
use Rattle.rtp_media_runs.proofs.Pushes.{stops-behind}
use Rattle.std.proofs.Common.{arith}
use Rattle.std.proofs.lemmas.Grind.{common_steps}
use Rattle.rtp_media_runs.proofs.pushing.push_samples.Goals as goal

whatever : {A : Type 0} {X : Type 0} (r : Result A SampleError) → X → IfErr r (λ e. e ≡ Memory → X)
whatever (Ok a) x = tt
whatever (Err e) x = λ _. x

pub returns-in_err-append-in-Ok-clause-memory : goal.returns-in_err-append-in-Ok-clause-memory
returns-in_err-append-in-Ok-clause-memory c =
    let ok : refusal_for (sender_at c.loop-sample.end c.args.tx) c.sample-item.result ≡ None =
    rw (c.time.ensures, c.values.ensures, c.bytes.ensures) at c.in-Ok.ensures.sends.0 in
    let after : c.push_sample.new.self ≡ with_sender c.loop-sample.end c.args.tx
    (stepped (sender_at c.loop-sample.end c.args.tx) c.sample-item.result) =
    rw (c.time.ensures, c.values.ensures, c.bytes.ensures) at c.in-Ok.ensures.sends.2 in
    let more : List (List ℕ) = c.loop-sample.datagrams.items
    ++ datagrams_for (sender_at c.loop-sample.end c.args.tx) c.sample-item.result in
    whatever _ (stops-behind _ _ _ _ _ _
    (pushed-more _ _ _ _ _ _ _ more c.sample-item.result c.loop-sample.invariant c.loop-sample-test.true
    c.sample-item.is ok after refl))

pub returns-in-Err-clause-refused : goal.returns-in-Err-clause-refused
returns-in-Err-clause-refused c = λ wants.
    let refused : refusal_for (sender_at c.loop-sample.end c.args.tx) c.sample-item.result ≡ Some c.in-Err.refusal =
    rw (c.time.ensures, c.values.ensures, c.bytes.ensures) at (c.in-Err.ensures.sends.0 wants).0 in
    refused-at _ _ _ _ _ _ _ c.sample-item.result _ c.loop-sample.invariant c.loop-sample-test.true c.sample-item.is
    refused (c.in-Err.ensures.sends.0 wants).1

pub returns-in-Err-clause-memory : goal.returns-in-Err-clause-memory
returns-in-Err-clause-memory c = λ wants.
    fails-at _ _ _ _ _ _ _ c.loop-sample.invariant (c.in-Err.ensures.sends.1 wants).0 (c.in-Err.ensures.sends.1 wants).1

pub loop-sample-preserved : goal.loop-sample-preserved
loop-sample-preserved c =
    let ok : refusal_for (sender_at c.loop-sample.end c.args.tx) c.sample-item.result ≡ None =
    rw (c.time.ensures, c.values.ensures, c.bytes.ensures) at c.in-Ok.ensures.sends.0 in
    let after : c.push_sample.new.self ≡ with_sender c.loop-sample.end c.args.tx
    (stepped (sender_at c.loop-sample.end c.args.tx) c.sample-item.result) =
    rw (c.time.ensures, c.values.ensures, c.bytes.ensures) at c.in-Ok.ensures.sends.2 in
    let sent : c.in-Ok.sent.items ≡ datagrams_for (sender_at c.loop-sample.end c.args.tx) c.sample-item.result =
    rw (c.time.ensures, c.values.ensures, c.bytes.ensures) at c.in-Ok.ensures.sends.1 in
    pushed-more _ _ _ _ _ _ _ _ c.sample-item.result c.loop-sample.invariant c.loop-sample-test.true c.sample-item.is
    ok after (c.in_ok-append-in-Ok.ensures ∙ ap (λ ds. c.loop-sample.datagrams.items ++ ds) sent)

pub returns-in_err-append-in-Ok-clause-sent : goal.returns-in_err-append-in-Ok-clause-sent
returns-in_err-append-in-Ok-clause-sent c = grind (arith, common_steps)

pub returns-in_err-append-in-Ok-clause-accepted : goal.returns-in_err-append-in-Ok-clause-accepted
returns-in_err-append-in-Ok-clause-accepted c = grind (arith, common_steps)

pub returns-in_err-append-in-Ok-clause-after : goal.returns-in_err-append-in-Ok-clause-after
returns-in_err-append-in-Ok-clause-after c = grind (arith, common_steps)

pub returns-in_err-append-in-Ok-clause-refused : goal.returns-in_err-append-in-Ok-clause-refused
returns-in_err-append-in-Ok-clause-refused c = grind (arith, common_steps)

pub returns-in-Err-clause-sent : goal.returns-in-Err-clause-sent
returns-in-Err-clause-sent c = grind (arith, common_steps)

pub returns-in-Err-clause-accepted : goal.returns-in-Err-clause-accepted
returns-in-Err-clause-accepted c = grind (arith, common_steps)

pub returns-in-Err-clause-after : goal.returns-in-Err-clause-after
returns-in-Err-clause-after c = grind (arith, common_steps)

pub returns-clause-sent : goal.returns-clause-sent
returns-clause-sent c = grind (arith, common_steps)

pub returns-clause-accepted : goal.returns-clause-accepted
returns-clause-accepted c = grind (arith, common_steps)

pub returns-clause-after : goal.returns-clause-after
returns-clause-after c = grind (arith, common_steps)

pub returns-clause-refused : goal.returns-clause-refused
returns-clause-refused c = grind (arith, common_steps)

pub returns-clause-memory : goal.returns-clause-memory
returns-clause-memory c = grind (arith, common_steps)

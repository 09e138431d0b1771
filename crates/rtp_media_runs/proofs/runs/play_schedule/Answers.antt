use Rattle.std.proofs.Common.{◌∙◌, ap, refl, ◌++◌, List, Result, Ok, Err, OnErr}
use Rattle.rtp_media_runs.specs.Pushing.{source_at}
use Rattle.rtp_media_runs.specs.Schedules.{answers_to}
use Rattle.rtp_media_runs.specs.declared.schedule.Event.TheVariants.{Poll}
use Rattle.rtp_media_runs.specs.declared.schedule.Played.{Played}
use Rattle.rtp_media_runs.proofs.Plays.{played-on, repairs-made, stops-at, stops-here}
use Rattle.std.proofs.Common.{arith}
use Rattle.std.proofs.lemmas.Grind.{common_steps}
use Rattle.rtp_media_runs.proofs.runs.play_schedule.Goals as goal

whatever : {A E : Type 0} {X : Type 0} (r : Result A E) → X → OnErr r X
whatever (Ok a) x = tt
whatever (Err e) x = x

pub returns-in_err-keep-clause-some : goal.returns-in_err-keep-clause-some
returns-in_err-keep-clause-some c =
    let more : List Played = c.loop-event.all.items
    ++ answers_to (source_at c.loop-event.a c.args.tx c.args.datagrams.now) c.args.rx c.loop-event.b
    c.event-item.result in
    whatever _ (stops-here _ _ _ _ _ _ _ _ _ _ more c.event-item.result
    (played-on _ _ _ _ _ _ _ _ _ _ _ c.event-item.result c.loop-event.invariant _ _ more c.loop-event-test.true
    c.event-item.is c.in_ok-answer.ensures.made c.in_ok-answer.ensures.after refl))

pub loop-event-preserved : goal.loop-event-preserved
loop-event-preserved c =
    played-on _ _ _ _ _ _ _ _ _ _ _ c.event-item.result c.loop-event.invariant _ _ _ c.loop-event-test.true
    c.event-item.is c.in_ok-answer.ensures.made c.in_ok-answer.ensures.after
    (c.in_ok-keep.ensures ∙ ap (λ (ps : List Played). c.loop-event.all.items ++ ps) c.in_ok-answer.ensures.answer)

pub returns-in_err-answer-clause-some : goal.returns-in_err-answer-clause-some
returns-in_err-answer-clause-some c =
    whatever _ (stops-at _ _ _ _ _ _ _ _ _ _ _ c.event-item.result c.loop-event.invariant _ _ c.loop-event-test.true
    c.event-item.is c.in_err-answer.ensures.stops)

pub returns-clause-repaired : goal.returns-clause-repaired
returns-clause-repaired c =
    let here = repairs-made _ _ _ _ _ _ _ _ _ _ _ Poll c.loop-event.invariant in
    grind (arith, common_steps, here)

pub returns-in_err-answer-clause-repaired : goal.returns-in_err-answer-clause-repaired
returns-in_err-answer-clause-repaired c = grind (arith, common_steps)

pub returns-in_err-keep-clause-repaired : goal.returns-in_err-keep-clause-repaired
returns-in_err-keep-clause-repaired c = grind (arith, common_steps)

pub returns-in_err-answer-clause-answers : goal.returns-in_err-answer-clause-answers
returns-in_err-answer-clause-answers c = grind (arith, common_steps)

pub returns-in_err-answer-clause-after : goal.returns-in_err-answer-clause-after
returns-in_err-answer-clause-after c = grind (arith, common_steps)

pub returns-in_err-keep-clause-answers : goal.returns-in_err-keep-clause-answers
returns-in_err-keep-clause-answers c = grind (arith, common_steps)

pub returns-in_err-keep-clause-after : goal.returns-in_err-keep-clause-after
returns-in_err-keep-clause-after c = grind (arith, common_steps)

pub returns-clause-answers : goal.returns-clause-answers
returns-clause-answers c = grind (arith, common_steps)

pub returns-clause-after : goal.returns-clause-after
returns-clause-after c = grind (arith, common_steps)

pub returns-clause-some : goal.returns-clause-some
returns-clause-some c = grind (arith, common_steps)

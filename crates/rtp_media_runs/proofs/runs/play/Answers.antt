use Rattle.std.proofs.Common.{◌≡◌, List, map, refl, sym, ◌∙◌, ap, subst}
use Rattle.payload_core_buffer.specs.Steps.{Answer}
use Rattle.rtp_media_schedules.specs.Hearing.{handed_out}
use Rattle.rtp_media_schedules.specs.SentSamples.{timed_unit}
use Rattle.rtp_media_schedules.specs.InTime.{timed_answer}
use Rattle.rtp_media_schedules.specs.Legal.{IsLegal}
use Rattle.rtp_media_ends.specs.Ends.{receiver_at, sender_at}
use Rattle.rtp_media_runs.specs.Pushing.{AtEvent}
use Rattle.rtp_media_runs.specs.Runs.{FollowsSchedule, IsTameSchedule, canonical_of}
use Rattle.rtp_media_runs.specs.Schedules.{Source, played, poll_answers, source_of}
use Rattle.rtp_media_runs.proofs.Isolated.{isolated}
use Rattle.rtp_media_runs.proofs.Plays.{pushed-repairs, pushed-some, pushed-source}
use Rattle.rtp_media_runs.proofs.WholeRuns.{exact-run, follows-run, legal-run, prompt-run}
use Rattle.std.proofs.Common.{arith}
use Rattle.std.proofs.lemmas.Grind.{common_steps}
use Rattle.rtp_media_runs.proofs.runs.play.Goals as goal

pub returns-in-Ok-play_schedule-clause-isolated : goal.returns-in-Ok-play_schedule-clause-isolated
returns-in-Ok-play_schedule-clause-isolated c = λ found.
    let source = pushed-source c.args.a.now _ c.args.tx c.args.samples.now c.deref.result.now c.requires.sender
    c.in-Ok.ensures.after (c.deref.ensures.value ∙ c.in-Ok.ensures.sent) in
    ap poll_answers (c.in-Ok-play_schedule.ensures.answers
    ∙ ap (λ (u : Source). played u c.args.rx c.args.b.now c.args.schedule.now) source)
    ∙ isolated (source_of (sender_at c.args.a.now c.args.tx) c.args.samples.now) c.args.rx
    (receiver_at c.args.b.now c.args.rx) c.args.schedule.now c.args.b.now (record { same = refl; known = found })

pub returns-in-Ok-play_schedule-clause-legal : goal.returns-in-Ok-play_schedule-clause-legal
returns-in-Ok-play_schedule-clause-legal c = λ holding hears sane.
    let source = pushed-source c.args.a.now _ c.args.tx c.args.samples.now c.deref.result.now c.requires.sender
    c.in-Ok.ensures.after (c.deref.ensures.value ∙ c.in-Ok.ensures.sent) in
    let all : poll_answers c.in-Ok-play_schedule.all.items
    ≡ poll_answers (played (source_of (sender_at c.args.a.now c.args.tx) c.args.samples.now) c.args.rx
    c.args.b.now c.args.schedule.now) =
    ap poll_answers (c.in-Ok-play_schedule.ensures.answers
    ∙ ap (λ (u : Source). played u c.args.rx c.args.b.now c.args.schedule.now) source) in
    subst (λ (os : List Answer). IsLegal (canonical_of (sender_at c.args.a.now c.args.tx) c.args.samples.now) os)
    (sym all)
    (legal-run c.codec_law.ensures.codec_in_forms c.args.b.now c.args.rx holding (sender_at c.args.a.now c.args.tx)
    c.args.samples.now hears c.args.schedule.now sane)

pub returns-in-Ok-play_schedule-clause-follows : goal.returns-in-Ok-play_schedule-clause-follows
returns-in-Ok-play_schedule-clause-follows c = λ holding hears sane.
    let source = pushed-source c.args.a.now _ c.args.tx c.args.samples.now c.deref.result.now c.requires.sender
    c.in-Ok.ensures.after (c.deref.ensures.value ∙ c.in-Ok.ensures.sent) in
    let all : poll_answers c.in-Ok-play_schedule.all.items
    ≡ poll_answers (played (source_of (sender_at c.args.a.now c.args.tx) c.args.samples.now) c.args.rx
    c.args.b.now c.args.schedule.now) =
    ap poll_answers (c.in-Ok-play_schedule.ensures.answers
    ∙ ap (λ (u : Source). played u c.args.rx c.args.b.now c.args.schedule.now) source) in
    subst (λ (os : List Answer). FollowsSchedule (sender_at c.args.a.now c.args.tx) c.args.samples.now holding
    c.args.schedule.now os) (sym all)
    (follows-run c.codec_law.ensures.codec_in_forms c.args.b.now c.args.rx holding (sender_at c.args.a.now c.args.tx)
    c.args.samples.now hears c.args.schedule.now sane)

pub returns-in-Ok-play_schedule-clause-prompt : goal.returns-in-Ok-play_schedule-clause-prompt
returns-in-Ok-play_schedule-clause-prompt c = λ holding hears timely.
    let source = pushed-source c.args.a.now _ c.args.tx c.args.samples.now c.deref.result.now c.requires.sender
    c.in-Ok.ensures.after (c.deref.ensures.value ∙ c.in-Ok.ensures.sent) in
    let all : poll_answers c.in-Ok-play_schedule.all.items
    ≡ poll_answers (played (source_of (sender_at c.args.a.now c.args.tx) c.args.samples.now) c.args.rx
    c.args.b.now c.args.schedule.now) =
    ap poll_answers (c.in-Ok-play_schedule.ensures.answers
    ∙ ap (λ (u : Source). played u c.args.rx c.args.b.now c.args.schedule.now) source) in
    ap (λ (os : List Answer). map timed_answer os) all
    ∙ prompt-run c.codec_law.ensures.codec_in_forms c.args.b.now c.args.rx holding (sender_at c.args.a.now c.args.tx)
    c.args.samples.now hears c.args.schedule.now timely

pub returns-in-Ok-play_schedule-clause-exact : goal.returns-in-Ok-play_schedule-clause-exact
returns-in-Ok-play_schedule-clause-exact c = λ holding hears tame.
    let source = pushed-source c.args.a.now _ c.args.tx c.args.samples.now c.deref.result.now c.requires.sender
    c.in-Ok.ensures.after (c.deref.ensures.value ∙ c.in-Ok.ensures.sent) in
    let all : poll_answers c.in-Ok-play_schedule.all.items
    ≡ poll_answers (played (source_of (sender_at c.args.a.now c.args.tx) c.args.samples.now) c.args.rx
    c.args.b.now c.args.schedule.now) =
    ap poll_answers (c.in-Ok-play_schedule.ensures.answers
    ∙ ap (λ (u : Source). played u c.args.rx c.args.b.now c.args.schedule.now) source) in
    ap (λ (os : List Answer). map timed_unit (handed_out os)) all
    ∙ exact-run c.codec_law.ensures.codec_in_forms c.args.b.now c.args.rx holding (sender_at c.args.a.now c.args.tx)
    c.args.samples.now hears c.args.schedule.now
    (subst (λ (os : List Answer). IsTameSchedule (sender_at c.args.a.now c.args.tx) c.args.samples.now holding
    c.args.schedule.now os) all tame)

pub returns-in-Err-clause-accepted : goal.returns-in-Err-clause-accepted
returns-in-Err-clause-accepted c = grind (arith, common_steps)

pub returns-in-Err-clause-repaired : goal.returns-in-Err-clause-repaired
returns-in-Err-clause-repaired c = grind (arith, common_steps)

pub returns-in-Err-clause-answers : goal.returns-in-Err-clause-answers
returns-in-Err-clause-answers c = grind (arith, common_steps)

pub returns-in-Err-clause-after : goal.returns-in-Err-clause-after
returns-in-Err-clause-after c = grind (arith, common_steps)

pub returns-in-Err-clause-refused : goal.returns-in-Err-clause-refused
returns-in-Err-clause-refused c = grind (arith, common_steps)

pub returns-in-Err-clause-unplayed : goal.returns-in-Err-clause-unplayed
returns-in-Err-clause-unplayed c = grind (arith, common_steps)

pub returns-in-Err-clause-memory : goal.returns-in-Err-clause-memory
returns-in-Err-clause-memory c = grind (arith, common_steps)

pub returns-in-Err-clause-isolated : goal.returns-in-Err-clause-isolated
returns-in-Err-clause-isolated c = grind (arith, common_steps)

pub returns-in-Err-clause-legal : goal.returns-in-Err-clause-legal
returns-in-Err-clause-legal c = grind (arith, common_steps)

pub returns-in-Err-clause-exact : goal.returns-in-Err-clause-exact
returns-in-Err-clause-exact c = grind (arith, common_steps)

pub returns-in-Ok-play_schedule-clause-accepted : goal.returns-in-Ok-play_schedule-clause-accepted
returns-in-Ok-play_schedule-clause-accepted c = grind (arith, common_steps)

pub returns-in-Ok-play_schedule-clause-repaired : goal.returns-in-Ok-play_schedule-clause-repaired
returns-in-Ok-play_schedule-clause-repaired c =
    c.in-Ok-play_schedule.ensures.repaired
    ∙ pushed-repairs c.args.a.now _ c.args.tx c.args.samples.now c.deref.result.now c.requires.sender
    c.in-Ok.ensures.after (c.deref.ensures.value ∙ c.in-Ok.ensures.sent) c.args.schedule.now

pub returns-in-Ok-play_schedule-clause-answers : goal.returns-in-Ok-play_schedule-clause-answers
returns-in-Ok-play_schedule-clause-answers c = grind (arith, common_steps)

pub returns-in-Ok-play_schedule-clause-after : goal.returns-in-Ok-play_schedule-clause-after
returns-in-Ok-play_schedule-clause-after c = grind (arith, common_steps)

pub returns-in-Ok-play_schedule-clause-refused : goal.returns-in-Ok-play_schedule-clause-refused
returns-in-Ok-play_schedule-clause-refused c = grind (arith, common_steps)

pub returns-in-Ok-play_schedule-clause-unplayed : goal.returns-in-Ok-play_schedule-clause-unplayed
returns-in-Ok-play_schedule-clause-unplayed c = grind (arith, common_steps)

pub returns-in-Ok-play_schedule-clause-memory : goal.returns-in-Ok-play_schedule-clause-memory
returns-in-Ok-play_schedule-clause-memory c = grind (arith, common_steps)

pub returns-clause-accepted : goal.returns-clause-accepted
returns-clause-accepted c = grind (arith, common_steps)

pub returns-clause-repaired : goal.returns-clause-repaired
returns-clause-repaired c = grind (arith, common_steps)

pub returns-clause-answers : goal.returns-clause-answers
returns-clause-answers c = grind (arith, common_steps)

pub returns-clause-after : goal.returns-clause-after
returns-clause-after c = grind (arith, common_steps)

pub returns-clause-refused : goal.returns-clause-refused
returns-clause-refused c = grind (arith, common_steps)

pub returns-clause-unplayed : goal.returns-clause-unplayed
returns-clause-unplayed c = grind (arith, common_steps)

pub returns-clause-memory : goal.returns-clause-memory
returns-clause-memory c = λ _. AtEvent c.in-Ok.ensures.accepted
    (pushed-some c.args.a.now _ c.args.tx c.args.samples.now c.deref.result.now c.requires.sender
    c.in-Ok.ensures.after (c.deref.ensures.value ∙ c.in-Ok.ensures.sent) c.args.rx c.args.b.now c.args.schedule.now _ _
    c.in-Err-play_schedule.ensures.some)

pub returns-clause-isolated : goal.returns-clause-isolated
returns-clause-isolated c = grind (arith, common_steps)

pub returns-clause-legal : goal.returns-clause-legal
returns-clause-legal c = grind (arith, common_steps)

pub returns-clause-exact : goal.returns-clause-exact
returns-clause-exact c = grind (arith, common_steps)

pub returns-in-Err-clause-follows : goal.returns-in-Err-clause-follows
returns-in-Err-clause-follows c = grind (arith, common_steps)

pub returns-in-Err-clause-prompt : goal.returns-in-Err-clause-prompt
returns-in-Err-clause-prompt c = grind (arith, common_steps)

pub returns-clause-follows : goal.returns-clause-follows
returns-clause-follows c = grind (arith, common_steps)

pub returns-clause-prompt : goal.returns-clause-prompt
returns-clause-prompt c = grind (arith, common_steps)

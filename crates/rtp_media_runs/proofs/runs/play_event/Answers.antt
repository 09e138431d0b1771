use Rattle.std.proofs.Common.{◌≡◌, ◌∙◌, ap, sym, IfOk, OnOk, List, ℕ, Option, Some, Result, Ok, Err, option_to_list}
use Rattle.rtp_media_ends.specs.Ends.{EndState}
use Rattle.rtp_media_runs.specs.Pushing.{source_at}
use Rattle.rtp_media_runs.specs.Schedules.{after_bytes, after_event, answers_to, verdicts_on}
use Rattle.rtp_media_runs.specs.declared.schedule.Played.{Played}
use Rattle.rtp_media_runs.proofs.Plays.{get-none, get-some}
use Rattle.rtp_media_runs.proofs.runs.play_event.Goals as goal

-- one answer is the answer
one : {E : Type 0} (r : Result (Option Played) E) (p : Played) (ps : List Played) → option_to_list (Some p) ≡ ps
    → IfOk r (λ a. a ≡ Some p) → IfOk r (λ a. option_to_list a ≡ ps)
one (Ok a) p ps e h = ap option_to_list h ∙ e
one (Err x) p ps e h = tt

becomes : {A E : Type 0} (r : Result A E) (e f g : EndState) → f ≡ g → OnOk r (e ≡ f) → OnOk r (e ≡ g)
becomes (Ok a) e f g same h = h ∙ same
becomes (Err x) e f g same h = tt

pub returns-in-Some-clause-answer : goal.returns-in-Some-clause-answer
returns-in-Some-clause-answer c =
    let at = get-some c.args.datagrams.now c.in-Arrive.k c.in-Some.datagram.now c.in-Some.ensures.lookup.3.0
    c.in-Some.ensures.lookup.1 in
    one _ _ _
    (ap (λ (o : Option (List ℕ)). verdicts_on c.args.b.now o) (ap Some c.as_slice.ensures ∙ sym at)
    ∙ ap (answers_to (source_at c.args.a.now c.args.tx c.args.datagrams.now) c.args.rx
    c.args.b.now) (sym c.in-Arrive.is))
    c.receive.ensures.answer

pub returns-in-Some-clause-after : goal.returns-in-Some-clause-after
returns-in-Some-clause-after c =
    let at = get-some c.args.datagrams.now c.in-Arrive.k c.in-Some.datagram.now c.in-Some.ensures.lookup.3.0
    c.in-Some.ensures.lookup.1 in
    becomes _ _ _ _
    (ap (λ (o : Option (List ℕ)). after_bytes c.args.b.now o) (ap Some c.as_slice.ensures ∙ sym at)
    ∙ ap (after_event (source_at c.args.a.now c.args.tx c.args.datagrams.now) c.args.rx
    c.args.b.now) (sym c.in-Arrive.is))
    c.receive.ensures.after

pub returns-in-None-clause-answer : goal.returns-in-None-clause-answer
returns-in-None-clause-answer c =
    let at = get-none c.args.datagrams.now c.in-Arrive.k c.in-None.ensures.lookup.3 in
    ap (λ (o : Option (List ℕ)). verdicts_on c.args.b.now o) (sym at)
    ∙ ap (answers_to (source_at c.args.a.now c.args.tx c.args.datagrams.now) c.args.rx
    c.args.b.now) (sym c.in-Arrive.is)

pub returns-in-None-clause-after : goal.returns-in-None-clause-after
returns-in-None-clause-after c =
    let at = get-none c.args.datagrams.now c.in-Arrive.k c.in-None.ensures.lookup.3 in
    ap (λ (o : Option (List ℕ)). after_bytes c.args.b.now o) (sym at)
    ∙ ap (after_event (source_at c.args.a.now c.args.tx c.args.datagrams.now) c.args.rx
    c.args.b.now) (sym c.in-Arrive.is)

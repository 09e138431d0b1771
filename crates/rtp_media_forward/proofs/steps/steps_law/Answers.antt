use Rattle.std.proofs.Common.{ℕ, refl, ◌∙◌, ap, List, []}
use Rattle.rtp_media_schedules.specs.Samples.{datagrams}
use Rattle.rtp_media_schedules.specs.Sending.{numbered}
use Rattle.rtp_media_forward.specs.Forwarding.{nothing_from}
use Rattle.rtp_media_forward.specs.Relayed.{relayed}
use Rattle.rtp_media_forward.specs.Relaying.{bare_senders, datagrams_at, no_values}
use Rattle.rtp_media_forward.proofs.ValuesAside.{run-aside, run-numbers-aside, run-sent-aside}
use Rattle.rtp_media_forward.proofs.WholeRuns.{at-start, run-as-in, run-between, run-sends}
use Rattle.rtp_media_forward.proofs.steps.steps_law.Goals as goal

pub returns-clause-sends : goal.returns-clause-sends
returns-clause-sends c = λ values senders first parts steps from run.
    run-sends values senders first parts steps [] parts (nothing_from first)
    (at-start first (nothing_from first) refl) refl (run-as-in senders parts steps from) run

pub returns-clause-between : goal.returns-clause-between
returns-clause-between c = λ senders first parts steps from run.
    run-between (λ v. v) senders first parts steps [] parts (nothing_from first)
    (at-start first (nothing_from first) refl) refl (run-as-in senders parts steps from) run

pub returns-clause-aside : goal.returns-clause-aside
returns-clause-aside c = λ values senders first parts steps from run.
    run-sent-aside values senders steps (nothing_from first)
    ∙ run-sends no_values (bare_senders senders) first parts steps [] parts (nothing_from first)
    (at-start first (nothing_from first) refl) refl (run-as-in (bare_senders senders) parts steps from)
    (run-aside values senders first steps [] parts (nothing_from first) run)
    ∙ ap (λ (ns : List ℕ). datagrams_at (numbered first (datagrams (relayed no_values parts))) ns)
    (run-numbers-aside values senders steps (nothing_from first))

pub returns-clause-cut : goal.returns-clause-cut
returns-clause-cut c = λ values senders first parts steps from run. (
  run-sends values senders first parts steps [] parts (nothing_from first)
      (at-start first (nothing_from first) refl) refl from run,
  run-between values senders first parts steps [] parts (nothing_from first)
      (at-start first (nothing_from first) refl) refl from run,
)

pub returns-clause-cut_aside : goal.returns-clause-cut_aside
returns-clause-cut_aside c = λ values senders first parts steps from run.
    run-sent-aside values senders steps (nothing_from first)
    ∙ run-sends no_values (bare_senders senders) first parts steps [] parts (nothing_from first)
    (at-start first (nothing_from first) refl) refl from
    (run-aside values senders first steps [] parts (nothing_from first) run)
    ∙ ap (λ (ns : List ℕ). datagrams_at (numbered first (datagrams (relayed no_values parts))) ns)
    (run-numbers-aside values senders steps (nothing_from first))

use Rattle.rtp_media_forward.specs.Forwarding.{nothing_from}
use Rattle.rtp_media_forward.specs.Steps.{numbers_in}
use Rattle.rtp_media_forward_runs.specs.Hops.{receiver_of}
use Rattle.rtp_media_forward_runs.specs.Steps.{datagrams_in}
use Rattle.rtp_media_forward_runs.proofs.Steps.{bytes-in, heard-in}
use Rattle.rtp_media_forward_runs.proofs.over_steps.steps_over_hops_law.Goals as goal

pub returns-clause-bytes : goal.returns-clause-bytes
returns-clause-bytes c = λ s own senders first parts steps from run.
    bytes-in s own senders first parts (nothing_from first) steps
    (c.steps_law.ensures.sends own senders first parts steps from run)
    (c.steps_law.ensures.between senders first parts steps from run)

pub returns-clause-heard : goal.returns-clause-heard
returns-clause-heard c = λ s holding own senders first parts steps plain good from run.
    heard-in s own senders first parts (nothing_from first) steps holding plain good
    (c.steps_law.ensures.sends own senders first parts steps from run)
    (c.steps_law.ensures.between senders first parts steps from run)

pub returns-clause-legal : goal.returns-clause-legal
returns-clause-legal c = λ s holding own senders first parts steps turns plain good from run are fits sane.
    c.hops_laws.ensures.legal s (receiver_of holding s) holding own first parts
    (datagrams_in s own senders (nothing_from first) steps) (numbers_in senders (nothing_from first) steps) turns are
    fits
    (heard-in s own senders first parts (nothing_from first) steps holding plain good
    (c.steps_law.ensures.sends own senders first parts steps from run)
    (c.steps_law.ensures.between senders first parts steps from run)) sane

pub returns-clause-exact : goal.returns-clause-exact
returns-clause-exact c = λ s holding own senders first parts steps turns plain good from run are fits tame silent.
    c.hops_laws.ensures.exact s (receiver_of holding s) holding own first parts
    (datagrams_in s own senders (nothing_from first) steps) (numbers_in senders (nothing_from first) steps) turns are
    fits
    (heard-in s own senders first parts (nothing_from first) steps holding plain good
    (c.steps_law.ensures.sends own senders first parts steps from run)
    (c.steps_law.ensures.between senders first parts steps from run)) tame silent

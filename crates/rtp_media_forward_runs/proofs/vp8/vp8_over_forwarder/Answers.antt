use Rattle.std.proofs.Common.{refl, sym, ◌∙◌, ap, arith, [], ◌∷◌, map, Ok}
use Rattle.rtp_media_forward.specs.Forwarding.{nothing_from}
use Rattle.rtp_media_runs.specs.declared.schedule.Event.TheVariants.{Arrive, Poll, Repair}
use Rattle.rtp_media_forward_runs.specs.Rooms.{parts_in, publications, senders_in, steps_in, stream_in}
use Rattle.rtp_media_forward_runs.specs.Steps.{datagrams_in}
use Rattle.rtp_media_forward_runs.proofs.Vp8Forwarded.{sends-frame, sends-vp8}
use Rattle.rtp_media_forward_runs.proofs.Rooms.{datagrams-are, from-them, is-silent, is-tame, left-are, onward-hears}
use Rattle.rtp_media_forward_runs.proofs.Rooms.{opened, published, runs, rx, taken, two, units-are}
use Rattle.rtp_media_forward_runs.proofs.vp8.vp8_over_forwarder.Goals as goal

pub returns-clause-taken : goal.returns-clause-taken
returns-clause-taken c = λ h x vp8 fits.
    let law = c.codec_law.ensures.codec_in_forms in
    let reached = c.codec_law.ensures.first in (
      taken law reached h x (sends-frame law reached h x vp8 fits),
      refl,
    )

pub returns-clause-run : goal.returns-clause-run
returns-clause-run c = λ r is.
    let law = c.codec_law.ensures.codec_in_forms in
    let reached = c.codec_law.ensures.first in
    let sends = sends-vp8 law reached in (
      from-them law reached sends r is,
      runs law reached sends r is,
    )

pub returns-clause-left : goal.returns-clause-left
returns-clause-left c = λ r is.
    let law = c.codec_law.ensures.codec_in_forms in
    let reached = c.codec_law.ensures.first in
    let sends = sends-vp8 law reached in
    let bytes = c.steps_over_hops_law.ensures.bytes (stream_in r) r.own (senders_in r) 0 (parts_in r) (steps_in r)
    (from-them law reached sends r is) (runs law reached sends r is) in
    let left = left-are law reached sends r is
    (datagrams_in (stream_in r) r.own (senders_in r) (nothing_from 0) (steps_in r)) bytes in
    (datagrams-are law reached sends r is ∙ sym left, left)

pub returns-clause-hears : goal.returns-clause-hears
returns-clause-hears c = λ r is.
    let law = c.codec_law.ensures.codec_in_forms in
    let reached = c.codec_law.ensures.first in
    let sends = sends-vp8 law reached in
    c.published_law.ensures.hears (opened law reached sends r is) (rx law reached sends r is) r.onward.holding
    (stream_in r) r.own 0
    (publications r) (onward-hears law reached sends r is).receiver
    (onward-hears law reached sends r is).sender is.plain is.keeps
    (published law reached sends r is) (omega (arith, two law reached sends r is))

pub returns-clause-units : goal.returns-clause-units
returns-clause-units c = λ r is.
    let law = c.codec_law.ensures.codec_in_forms in
    let reached = c.codec_law.ensures.first in
    let sends = sends-vp8 law reached in
    let hears = c.published_law.ensures.hears (opened law reached sends r is)
    (rx law reached sends r is) r.onward.holding
    (stream_in r) r.own 0 (publications r) (onward-hears law reached sends r is).receiver
    (onward-hears law reached sends r is).sender is.plain is.keeps (published law reached sends r is)
    (omega (arith, two law reached sends r is)) in
    c.published_law.ensures.exact (opened law reached sends r is) (rx law reached sends r is) r.onward.holding
    (stream_in r) r.own 0
    (publications r) (Arrive 0 ∷ Repair 1 ∷ Poll ∷ Poll ∷ []) hears tt (is-tame law reached sends r is)
    (is-silent law reached sends r is hears)
    ∙ ap (map Ok) (units-are law reached sends r is)

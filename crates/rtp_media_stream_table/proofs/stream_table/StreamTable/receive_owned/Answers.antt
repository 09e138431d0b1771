use Rattle.std.proofs.Common.{◌≡◌, ◌∙◌, arith, ap, ap₂, sym, List}
use Rattle.std.proofs.lemmas.Grind.{common_steps}
use Rattle.std.specs.Prelude.{slice_range, slice_set}
use Rattle.rtp_media_streams.specs.Receiving.{Receiving, arrived, values_read, with_stream}
use Rattle.rtp_media_stream_table.specs.Arrivals.{streams_after}
use Rattle.rtp_media_stream_table.specs.Streams.{nth_receiver, nth_stream, receiving_of}
use Rattle.rtp_media_stream_table.specs.declared.open_stream.OpenStream.{OpenStream}
use Rattle.rtp_media_stream_table.specs.declared.open_stream.OpenStream.TheVariants.{Receiver}
use Rattle.rtp_media_stream_table.proofs.Indexing.{kept-receiver}
use Rattle.rtp_media_stream_table.proofs.stream_table.StreamTable.receive_owned.Goals as goal

pub invariant_of-self-2 : goal.invariant_of-self-2
invariant_of-self-2 c =
    let is : nth_stream c.self.inside.streams.items c.in-Ok.own.0 ≡ Receiver c.deref_mut.result.now =
    grind (arith, common_steps) in
    kept-receiver c.self.inside.senders c.self.inside.receivers c.self.inside.streams.items c.in-Ok.own.0
    c.deref_mut.result.now c.receive_owned.new.self is (ap (λ (r : Receiving). r.ssrc) c.in_ok-taken.ensures.after)
    (ap (λ (r : Receiving). r.types) c.in_ok-taken.ensures.after) c.self.invariant

pub returns-clause-after : goal.returns-clause-after
returns-clause-after c =
    let placed = c.in-Ok.own.1 in
    let is : nth_stream c.self.inside.streams.items c.in-Ok.own.0 ≡ Receiver c.deref_mut.result.now =
    grind (arith, common_steps) in
    let seen : nth_receiver c.args.self.now c.in-Ok.own.0 ≡ c.deref_mut.result.now =
    ap (λ (ss : List OpenStream). nth_receiver ss c.in-Ok.own.0) (sym c.self.view_is) ∙ ap receiving_of is in
    ap₂ (λ (ss : List OpenStream) (r : Receiving). slice_set ss c.in-Ok.own.0 (Receiver r)) c.self.view_is
    (c.in_ok-taken.ensures.after
    ∙ ap (λ (r : Receiving). with_stream r (arrived r.stream placed.low placed.time placed.marker
    (values_read r.map c.args.datagram.items) (slice_range c.args.datagram.items placed.start placed.end))) (sym seen))
    ∙ ap (streams_after c.args.self.now) (sym (rw c.deref.ensures.value at c.in-Ok.ensures.own))

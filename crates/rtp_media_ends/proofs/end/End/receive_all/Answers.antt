use Rattle.std.proofs.Common.{◌≡◌, ◌∙◌, ap, sym, subst, List, arith}
use Rattle.rtp_media_streams.specs.Receiving.{Receiving, opened_receiver, with_stream}
use Rattle.rtp_media_stream_table.specs.declared.OpenStream.{OpenStream}
use Rattle.rtp_media_ends.specs.Ends.{EndState, receiver_at}
use Rattle.rtp_media_ends.specs.FullArrival.{after_datagrams}
use Rattle.rtp_media_stream_table.specs.Polled.{ArePolledOut}
use Rattle.rtp_media_ends.proofs.Exact.{exact}
use Rattle.rtp_media_ends.proofs.Isolation.{found-after}
use Rattle.rtp_media_ends.proofs.Stopping.{out-of}
use Rattle.std.proofs.lemmas.Grind.{common_steps}
use Rattle.rtp_media_ends.proofs.end.End.receive_all.Goals as goal

pub returns-clause-exact : goal.returns-clause-exact
returns-clause-exact c stream holding sender samples arrivals all =
    let streams : c.self.inside.streams ≡ (after_datagrams c.args.self.now c.args.datagrams.now).streams =
    ap (λ (e : EndState). e.streams) (c.self.view_is ∙ c.in_ok-verdicts.ensures.after) in
    let polled : ArePolledOut (after_datagrams c.args.self.now c.args.datagrams.now).streams
    c.in_ok-polls.polls.items c.poll_out.new.self =
    subst (λ (ss : List OpenStream). ArePolledOut ss c.in_ok-polls.polls.items c.poll_out.new.self)
    streams c.in_ok-polls.ensures.out in
    let r : Receiving = opened_receiver sender.ssrc sender.types sender.map sender.row holding in
    let same : receiver_at c.args.self.now stream ≡ with_stream r (receiver_at c.args.self.now stream).stream =
    all.receiver.stream_is ∙ ap (with_stream r) (sym (ap (λ (x : Receiving). x.stream) all.receiver.stream_is)) in
    let there = found-after c.args.datagrams.now c.args.self.now stream r same all.receiver.found in
    exact c.codec_law.ensures.codec_in_forms c.args.self.now stream holding sender samples arrivals
    c.args.datagrams.now _ _ all
    (out-of _ _ _ there.1 (polled.each stream there.0))

pub returns-in_err-verdicts-clause-verdicts : goal.returns-in_err-verdicts-clause-verdicts
returns-in_err-verdicts-clause-verdicts c = grind (arith, common_steps)

pub returns-in_err-verdicts-clause-polls : goal.returns-in_err-verdicts-clause-polls
returns-in_err-verdicts-clause-polls c = grind (arith, common_steps)

pub returns-in_err-verdicts-clause-others : goal.returns-in_err-verdicts-clause-others
returns-in_err-verdicts-clause-others c = grind (arith, common_steps)

pub returns-in_err-verdicts-clause-exact : goal.returns-in_err-verdicts-clause-exact
returns-in_err-verdicts-clause-exact c = grind (arith, common_steps)

pub returns-in_err-verdicts-clause-memory : goal.returns-in_err-verdicts-clause-memory
returns-in_err-verdicts-clause-memory c = grind (arith, common_steps)

pub returns-in_err-polls-clause-verdicts : goal.returns-in_err-polls-clause-verdicts
returns-in_err-polls-clause-verdicts c = grind (arith, common_steps)

pub returns-in_err-polls-clause-polls : goal.returns-in_err-polls-clause-polls
returns-in_err-polls-clause-polls c = grind (arith, common_steps)

pub returns-in_err-polls-clause-others : goal.returns-in_err-polls-clause-others
returns-in_err-polls-clause-others c = grind (arith, common_steps)

pub returns-in_err-polls-clause-exact : goal.returns-in_err-polls-clause-exact
returns-in_err-polls-clause-exact c = grind (arith, common_steps)

pub returns-in_err-polls-clause-memory : goal.returns-in_err-polls-clause-memory
returns-in_err-polls-clause-memory c = grind (arith, common_steps)

pub returns-clause-verdicts : goal.returns-clause-verdicts
returns-clause-verdicts c = grind (arith, common_steps)

pub returns-clause-polls : goal.returns-clause-polls
returns-clause-polls c = grind (arith, common_steps)

pub returns-clause-others : goal.returns-clause-others
returns-clause-others c = grind (arith, common_steps)

pub returns-clause-memory : goal.returns-clause-memory
returns-clause-memory c = grind (arith, common_steps)

use Rattle.std.proofs.Common.{◌≡◌, ℕ, List, ◌∷◌, ◌++◌, [], length, sym, ap, subst₂, arith, true, false}
use Rattle.std.proofs.lemmas.Grind.{common_steps}
use Rattle.std.specs.List.{list_any}
use Rattle.rtp_media_stream_table.specs.declared.open_stream.OpenStream.{OpenStream}
use Rattle.rtp_media_stream_table.specs.declared.open_stream.OpenStream.TheVariants.{Sender}
use Rattle.rtp_media_stream_table.specs.Streams.{is_nth_sender, nth_sender, sending_of, sends_as}
use Rattle.rtp_media_stream_table.specs.Indexed.{AreIndexed}
use Rattle.rtp_media_stream_table.proofs.Indexing.{may-send, sender-added}
use Rattle.rtp_media_stream_table.proofs.Added.{last-is, sends-at-end}
use Rattle.rtp_media_stream_table.proofs.stream_table.StreamTable.add_sender.Goals as goal

pub invariant_of-self : goal.invariant_of-self
invariant_of-self c =
    let free : list_any (sends_as c.ssrc-ssrc.result c.types-types.result) c.self.inside.streams.items ≡ false =
    grind (arith, common_steps) in
    may-send c.self.inside.senders c.set_types.new.self c.self.inside.receivers c.self.inside.streams.items
    c.ssrc-ssrc.result c.types-types.result c.set_types.ensures.others free c.self.invariant

pub invariant_of-self-in_err-push : goal.invariant_of-self-in_err-push
invariant_of-self-in_err-push c =
    let free : list_any (sends_as c.ssrc-ssrc.result c.types-types.result) c.self.inside.streams.items ≡ false =
    grind (arith, common_steps) in
    let same : c.push.new.self.items ≡ c.self.inside.streams.items = grind (arith, common_steps) in
    rw same
    (may-send c.self.inside.senders c.set_types.new.self c.self.inside.receivers c.self.inside.streams.items
    c.ssrc-ssrc.result c.types-types.result c.set_types.ensures.others free c.self.invariant)

pub invariant_of-self-2 : goal.invariant_of-self-2
invariant_of-self-2 c =
    let free : list_any (sends_as c.ssrc-ssrc.result c.types-types.result) c.self.inside.streams.items ≡ false =
    grind (arith, common_steps) in
    let indexed : AreIndexed c.set_types.new.self c.self.inside.receivers c.self.inside.streams.items =
    may-send c.self.inside.senders c.set_types.new.self c.self.inside.receivers c.self.inside.streams.items
    c.ssrc-ssrc.result c.types-types.result c.set_types.ensures.others free c.self.invariant in
    let number : c.len-number.result ≡ length c.self.inside.streams.items = grind (arith, common_steps) in
    rw c.in_ok-push.ensures.items (rw c.in_ok-slot.ensures
    (sender-added c.set_types.new.self c.self.inside.receivers c.self.inside.streams.items c.args.stream
    c.ssrc-ssrc.result c.types-types.result c.len-number.result (sym c.ssrc-ssrc.ensures) (sym c.types-types.ensures)
    number indexed c.in_ok-set_types.ensures.set))

pub returns-clause-stream : goal.returns-clause-stream
returns-clause-stream c =
    let items : c.self.inside.streams.items ++ Sender c.args.stream ∷ [] ≡ c.push.new.self.items =
    grind (arith, common_steps) in
    let number : length c.self.inside.streams.items ≡ c.len-number.result = grind (arith, common_steps) in
    subst₂ (λ (ss : List OpenStream) (n : ℕ). nth_sender ss n ≡ c.args.stream) items number
    (ap sending_of (last-is c.self.inside.streams.items (Sender c.args.stream)))

pub returns-clause-sends : goal.returns-clause-sends
returns-clause-sends c =
    let items : c.self.inside.streams.items ++ Sender c.args.stream ∷ [] ≡ c.push.new.self.items =
    grind (arith, common_steps) in
    let number : length c.self.inside.streams.items ≡ c.len-number.result = grind (arith, common_steps) in
    subst₂ (λ (ss : List OpenStream) (n : ℕ). is_nth_sender ss n ≡ true) items number
    (sends-at-end c.self.inside.streams.items c.args.stream)

pub returns-in_err-set_types-clause-number : goal.returns-in_err-set_types-clause-number
returns-in_err-set_types-clause-number c = grind (arith, common_steps)

pub returns-in_err-set_types-clause-added : goal.returns-in_err-set_types-clause-added
returns-in_err-set_types-clause-added c = grind (arith, common_steps)

pub returns-in_err-set_types-clause-stream : goal.returns-in_err-set_types-clause-stream
returns-in_err-set_types-clause-stream c = grind (arith, common_steps)

pub returns-in_err-set_types-clause-sends : goal.returns-in_err-set_types-clause-sends
returns-in_err-set_types-clause-sends c = grind (arith, common_steps)

pub returns-in_err-set_types-clause-unchanged : goal.returns-in_err-set_types-clause-unchanged
returns-in_err-set_types-clause-unchanged c = grind (arith, common_steps)

pub returns-in_err-push-clause-number : goal.returns-in_err-push-clause-number
returns-in_err-push-clause-number c = grind (arith, common_steps)

pub returns-in_err-push-clause-added : goal.returns-in_err-push-clause-added
returns-in_err-push-clause-added c = grind (arith, common_steps)

pub returns-in_err-push-clause-stream : goal.returns-in_err-push-clause-stream
returns-in_err-push-clause-stream c = grind (arith, common_steps)

pub returns-in_err-push-clause-sends : goal.returns-in_err-push-clause-sends
returns-in_err-push-clause-sends c = grind (arith, common_steps)

pub returns-in_err-push-clause-unchanged : goal.returns-in_err-push-clause-unchanged
returns-in_err-push-clause-unchanged c = grind (arith, common_steps)

pub returns-clause-number : goal.returns-clause-number
returns-clause-number c = grind (arith, common_steps)

pub returns-clause-added : goal.returns-clause-added
returns-clause-added c = grind (arith, common_steps)

pub returns-clause-unchanged : goal.returns-clause-unchanged
returns-clause-unchanged c = grind (arith, common_steps)

use Rattle.std.proofs.Common.{◌≡◌, ◌∙◌, ap, arith}
use Rattle.std.proofs.lemmas.Grind.{common_steps}
use Rattle.rtp_wire.specs.Values.{Numbering, absent}
use Rattle.rtp_media_streams.specs.Receiving.{values_read}
use Rattle.jilqamur.proofs.Unread.{nothing_read}
use Rattle.jilqamur.proofs.inbox.Inbox.take.Goals as goal

pub returns-clause-after : goal.returns-clause-after
returns-clause-after c =
    let bytes = c.args.payload.now in
    let unread : values_read c.self.inside.stream.map bytes ≡ absent =
    ap (λ (m : Numbering). values_read m bytes) c.self.invariant ∙ nothing_read bytes in
    grind (arith, common_steps, unread)

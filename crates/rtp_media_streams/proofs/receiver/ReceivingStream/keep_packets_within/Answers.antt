use Rattle.std.proofs.Common.{◌≡◌, None, refl, sym, ◌∙◌}
use Rattle.payload_core_buffer.specs.Sizes.{excess}
use Rattle.rtp_media_streams.proofs.Limiting.{none-there}
use Rattle.rtp_media_streams.proofs.receiver.ReceivingStream.keep_packets_within.Goals as goal

pub returns-else-keep_within-clause-after : goal.returns-else-keep_within-clause-after
returns-else-keep_within-clause-after c =
    let none : excess c.args.bytes c.self.inside.buffer.held ≡ None
    = none-there (excess c.args.bytes c.self.inside.buffer.held)
    (sym c.if-keep_within.false ∙ c.keep_within.ensures.gone) in
    rw (← c.self.view_is, c.keep_within.ensures.kept, none) refl

use Rattle.std.proofs.Common.{◌∙◌, ap, is_some, unwrap_or}
use Rattle.h26x_payload.specs.Codings.{first_settings}
use Rattle.h26x_payload.specs.Packetizers.{sender_under}
use Rattle.rtp_media_streams.specs.Rows.{first_state, packing_of}
use Rattle.h26x_payload.proofs.Configured.{first-kept}
use Rattle.rtp_media_streams.proofs.codecs.plain_packetizer_for.Goals as goal

pub returns-clause-packing : goal.returns-clause-packing
unfolding packing_of
returns-clause-packing c =
    c.configure_for.ensures.configured first_settings (is_some c.args.picture_id) c.args.row.now.codec
    (rw c.unwrap-packetizer.ensures at c.with_picture_id.ensures.variant)
    (rw c.unwrap-packetizer.ensures at c.with_picture_id.ensures.packing)

pub returns-clause-sender : goal.returns-clause-sender
unfolding first_state
returns-clause-sender c =
    c.configure_for.ensures.sender
    ∙ ap (λ s. sender_under s c.unwrap-packetizer.result)
    (rw c.unwrap-packetizer.ensures at c.with_picture_id.ensures.sender)
    ∙ first-kept c.unwrap-packetizer.result c.args.row.now.codec (unwrap_or c.args.picture_id 0)
    (rw c.unwrap-packetizer.ensures at c.with_picture_id.ensures.variant)

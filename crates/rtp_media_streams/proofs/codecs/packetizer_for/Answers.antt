use Rattle.std.proofs.Common.{◌∙◌, sym, ap, subst, Bool, is_some, List}
use Rattle.std.specs.List.{Contains}
use Rattle.media_types.specs.declared.codec.Codec.{Codec}
use Rattle.h26x_payload.specs.Codings.{plain_forms, with_zero_id}
use Rattle.rtp_media_streams.specs.Rows.{packing_of, settings_in}
use Rattle.rtp_media_streams.proofs.codecs.packetizer_for.Goals as goal

pub returns-then-for_browsers-clause-packing : goal.returns-then-for_browsers-clause-packing
unfolding packing_of
returns-then-for_browsers-clause-packing c =
    let row = c.args.row.now in
    let has = subst (λ (codecs : List Codec). Contains codecs row.codec) (sym c.with_zero_id.ensures.variant)
    c.plain_packetizer_for-packetizer.ensures.variant in
    c.with_prediction.ensures.in_form (with_zero_id plain_forms) (settings_in row) (is_some c.args.picture_id) row.codec
    has
    (c.with_zero_id.ensures.in_form plain_forms (settings_in row) (is_some c.args.picture_id) row.codec
    c.plain_packetizer_for-packetizer.ensures.variant c.plain_packetizer_for-packetizer.ensures.packing)
    ∙ ap (λ (b : Bool). packing_of row (is_some c.args.picture_id) b) (sym c.if-for_browsers.true)

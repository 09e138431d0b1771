-- A packetizer over all codecs.
use Rattle.std.specs.Prelude.{Bool, true, false, List, [], ◌∷◌}
use Rattle.payload_core_base.specs.Packing.{Packing, Sender}
use Rattle.media_types.specs.declared.codec.Codec.{Codec}
use Rattle.media_types.specs.declared.codec.Codec.TheVariants as codecs
use Rattle.payload_core_audio.specs.AmrWb.{amr_wb_packing}
use Rattle.payload_core_vpx.specs.Vp8.{vp8_packing}
use Rattle.payload_core_vpx.specs.Vp9.{vp9_packing}
use Rattle.h26x_payload_units.specs.declared.layout.Layout.TheVariants as layouts
use Rattle.h26x_payload_formats.specs.Packing.{h265_h266_packing}
use Rattle.h26x_payload.specs.Codings.{Settings}
use Rattle.h26x_payload.specs.declared.codec_packetizer.CodecPacketizer.{CodecPacketizer}
use Rattle.h26x_payload.specs.declared.codec_packetizer.CodecPacketizer.TheVariants.{G711, G722, Opus, ComfortNoise}
use Rattle.h26x_payload.specs.declared.codec_packetizer.CodecPacketizer.TheVariants.{AmrWb, Telephone, Vp8, Vp9, Av1}
use Rattle.h26x_payload.specs.declared.codec_packetizer.CodecPacketizer.TheVariants.{H264, H265, H266, Boxed}

-- The codecs a packetizer handles; a boxed one of a caller's handles none of the known ones.
abbrev pub codecs_of : {B : Type 0} → CodecPacketizer B → List Codec
codecs_of (G711 p) = codecs.PCMU ∷ codecs.PCMA ∷ []
codecs_of (G722 p) = codecs.G722 ∷ []
codecs_of (Opus p) = codecs.Opus ∷ []
codecs_of (ComfortNoise p) = codecs.CN ∷ []
codecs_of (AmrWb p) = codecs.AmrWb ∷ []
codecs_of (Telephone p) = codecs.Tele ∷ []
codecs_of (Vp8 p) = codecs.Vp8 ∷ []
codecs_of (Vp9 p) = codecs.Vp9 ∷ []
codecs_of (Av1 p) = codecs.Av1 ∷ []
codecs_of (H264 p) = codecs.H264 ∷ []
codecs_of (H265 p) = codecs.H265 ∷ []
codecs_of (H266 p) = codecs.H266 ∷ []
codecs_of (Boxed b) = []

-- AMR-WB goes by the layout, H.265 and H.266 by whether there are decoding order numbers; the others stay as they were.
abbrev pub packing_under : {B : Type 0} → Settings → Packing → CodecPacketizer B → Packing
packing_under s before (AmrWb p) = amr_wb_packing s.octet_align
packing_under s before (H265 p) = h265_h266_packing layouts.H265 s.donl
packing_under s before (H266 p) = h265_h266_packing layouts.H266 s.donl
packing_under s before _ = before

-- H.265 and H.266 restart their numbers at 0.
abbrev pub sender_under : {B : Type 0} → Sender → CodecPacketizer B → Sender
sender_under before (H265 p) = record { number = 0; waiting = before.waiting }
sender_under before (H266 p) = record { number = 0; waiting = before.waiting }
sender_under before _ = before

-- Whether the settings affect it.
abbrev pub is_set : {B : Type 0} → CodecPacketizer B → Bool
is_set (AmrWb p) = true
is_set (H265 p) = true
is_set (H266 p) = true
is_set _ = false

-- VP8 writes the picture id 0, or VP9 tells which frames are predicted; the others stay as they were.
abbrev pub packing_with_zero_id : {B : Type 0} → Packing → CodecPacketizer B → Packing
packing_with_zero_id before (Vp8 p) = vp8_packing p.has_id true
packing_with_zero_id before _ = before

abbrev pub packing_with_prediction : {B : Type 0} → Packing → CodecPacketizer B → Packing
packing_with_prediction before (Vp9 p) = vp9_packing true
packing_with_prediction before _ = before

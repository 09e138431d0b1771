-- A depacketizer over all codecs.
use Rattle.std.specs.Prelude.{Bool, true, false, List, [], ◌∷◌}
use Rattle.payload_core_base.specs.Format.{Format}
use Rattle.media_types.specs.declared.codec.Codec.{Codec}
use Rattle.media_types.specs.declared.codec.Codec.TheVariants as codecs
use Rattle.payload_core_audio.specs.AmrWb.{amr_wb_format}
use Rattle.payload_core_audio.specs.Telephone.{telephone_format}
use Rattle.h26x_payload_units.specs.declared.layout.Layout.TheVariants as layouts
use Rattle.h26x_payload_formats.specs.Reading.{h265_h266_format}
use Rattle.h26x_payload.specs.Codings.{Settings}
use Rattle.h26x_payload.specs.declared.codec_depacketizer.CodecDepacketizer.{CodecDepacketizer}
use Rattle.h26x_payload.specs.declared.codec_depacketizer.CodecDepacketizer.TheVariants.{G711, G722, Opus}
use Rattle.h26x_payload.specs.declared.codec_depacketizer.CodecDepacketizer.TheVariants.{ComfortNoise, AmrWb}
use Rattle.h26x_payload.specs.declared.codec_depacketizer.CodecDepacketizer.TheVariants.{Telephone, Vp8, Vp9}
use Rattle.h26x_payload.specs.declared.codec_depacketizer.CodecDepacketizer.TheVariants.{Av1}
use Rattle.h26x_payload.specs.declared.codec_depacketizer.CodecDepacketizer.TheVariants.{H264, H265, H266, Boxed}

-- The codecs a depacketizer handles; a boxed one of a caller's handles none of the known ones.
abbrev pub codecs_of : {B : Type 0} → CodecDepacketizer B → List Codec
codecs_of (G711 d) = codecs.PCMU ∷ codecs.PCMA ∷ []
codecs_of (G722 d) = codecs.G722 ∷ []
codecs_of (Opus d) = codecs.Opus ∷ []
codecs_of (ComfortNoise d) = codecs.CN ∷ []
codecs_of (AmrWb d) = codecs.AmrWb ∷ []
codecs_of (Telephone d) = codecs.Tele ∷ []
codecs_of (Vp8 d) = codecs.Vp8 ∷ []
codecs_of (Vp9 d) = codecs.Vp9 ∷ []
codecs_of (Av1 d) = codecs.Av1 ∷ []
codecs_of (H264 d) = codecs.H264 ∷ []
codecs_of (H265 d) = codecs.H265 ∷ []
codecs_of (H266 d) = codecs.H266 ∷ []
codecs_of (Boxed b) = []

-- AMR-WB depends on the layout, H.265 and H.266 on decoding order numbers, telephone events on the clock rate; the
-- others don't change.
abbrev pub format_under : {B : Type 0} → Settings → Format → CodecDepacketizer B → Format
format_under s before (AmrWb d) = amr_wb_format s.octet_align
format_under s before (H265 d) = h265_h266_format layouts.H265 s.donl
format_under s before (H266 d) = h265_h266_format layouts.H266 s.donl
format_under s before (Telephone d) = telephone_format s.clock_rate
format_under s before _ = before

-- Whether the settings affect it.
abbrev pub is_set : {B : Type 0} → CodecDepacketizer B → Bool
is_set (AmrWb d) = true
is_set (H265 d) = true
is_set (H266 d) = true
is_set (Telephone d) = true
is_set _ = false

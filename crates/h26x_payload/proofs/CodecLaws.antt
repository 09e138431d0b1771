-- The codec law of every codec, from those of the codecs.
use Rattle.std.proofs.Common.{◌≡◌, ℕ, Bool, refl}
use Rattle.payload_core_vpx.specs.Vp8Forms as vpx
use Rattle.payload_core_vpx.specs.Vp9 as vp9
use Rattle.payload_core_base.specs.Law.{CodecLaw}
use Rattle.media_types.specs.declared.codec.Codec.{Codec}
use Rattle.media_types.specs.declared.codec.Codec.TheVariants.{Opus, CN, AmrWb, H264, H265}
use Rattle.media_types.specs.declared.codec.Codec.TheVariants.{H266, Vp8, Vp9, Av1, Tele, Rtx, Red, Null}
use Rattle.media_types.specs.declared.codec.Codec.TheVariants.{Unknown}
use Rattle.payload_core_audio.specs.AmrWb.{amr_wb_coding}
use Rattle.payload_core_audio.specs.Plain.{noise_coding, pieces_coding}
use Rattle.payload_core_audio.specs.Telephone.{telephone_coding}
use Rattle.payload_core_vpx.specs.Vp8.{vp8_coding}
use Rattle.payload_core_vpx.specs.Vp9.{vp9_coding}
use Rattle.payload_core_av1.specs.Av1Coding.{av1_coding}
use Rattle.h26x_payload_formats.specs.H264Coding.{h264_coding}
use Rattle.h26x_payload_units.specs.declared.layout.Layout.{Layout}
use Rattle.h26x_payload_units.specs.declared.layout.Layout.TheVariants as layouts
use Rattle.h26x_payload_formats.specs.Coding.{h265_h266_coding}
use Rattle.h26x_payload.specs.Dispatch.{FormsKeepUnits, KeepCodecLaw, KeepCodecLawInForms}
use Rattle.h26x_payload.specs.Codings.{Forms, Settings, coding_in, coding_of, plain_forms}

-- the laws of the codecs
pub record TheLaws : Type 0 where
  pub pieces : CodecLaw pieces_coding
  pub noise : CodecLaw noise_coding
  pub amr_wb : (octet_align : Bool) → CodecLaw (amr_wb_coding octet_align)
  pub telephone : (rate : ℕ) → CodecLaw (telephone_coding rate)
  pub vp8 : (has_id zero_id : Bool) → CodecLaw (vp8_coding has_id zero_id)
  pub vp9 : (prediction : Bool) → CodecLaw (vp9_coding prediction)
  pub av1 : CodecLaw av1_coding
  pub h264 : CodecLaw h264_coding
  pub h265_h266 : (layout : Layout) (donl : Bool) → CodecLaw (h265_h266_coding layout donl)

pub keep_codec_law_in : TheLaws → KeepCodecLawInForms
keep_codec_law_in l f s has_id CN = l.noise
keep_codec_law_in l f s has_id AmrWb = l.amr_wb s.octet_align
keep_codec_law_in l f s has_id H264 = l.h264
keep_codec_law_in l f s has_id H265 = l.h265_h266 layouts.H265 s.donl
keep_codec_law_in l f s has_id H266 = l.h265_h266 layouts.H266 s.donl
keep_codec_law_in l f s has_id Vp8 = l.vp8 has_id f.zero_id
keep_codec_law_in l f s has_id Vp9 = l.vp9 f.prediction
keep_codec_law_in l f s has_id Av1 = l.av1
keep_codec_law_in l f s has_id Tele = l.telephone s.clock_rate
keep_codec_law_in l f s has_id Rtx = λ sender limit sample reached well_formed. absurd well_formed
keep_codec_law_in l f s has_id Red = λ sender limit sample reached well_formed. absurd well_formed
keep_codec_law_in l f s has_id Null = λ sender limit sample reached well_formed. absurd well_formed
keep_codec_law_in l f s has_id Unknown = λ sender limit sample reached well_formed. absurd well_formed
keep_codec_law_in l f s has_id _ = l.pieces

pub keep_codec_law : TheLaws → KeepCodecLaw
keep_codec_law l s has_id codec = keep_codec_law_in l plain_forms s has_id codec

pub forms_keep_units : vpx.SameUnits → vp9.SameUnits → FormsKeepUnits
forms_keep_units vp8 vp9 f s has_id Vp8 sender limit sample room = vp8 has_id f.zero_id sender limit sample room
forms_keep_units vp8 vp9 f s has_id Vp9 sender limit sample room = vp9 f.prediction sender limit sample room
forms_keep_units vp8 vp9 f s has_id _ sender limit sample room = refl

-- what is read is the same in all forms
pub same_format : (f : Forms) (s : Settings) (has_id : Bool) (codec : Codec) → (coding_of s has_id codec).format
    ≡ (coding_in f s has_id codec).format
same_format f s has_id Opus = refl
same_format f s has_id _ = refl

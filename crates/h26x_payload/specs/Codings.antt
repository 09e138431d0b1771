-- Which payload format each codec has.
use Rattle.std.specs.Prelude.{ℕ, Bool, true, false, nat_lt, List, [], ◌∷◌, Option, None, unwrap_or}
use Rattle.payload_core_base.specs.Law.{Coding}
use Rattle.payload_core_base.specs.Packing.{Sender}
use Rattle.media_types.specs.declared.codec.Codec.{Codec}
use Rattle.media_types.specs.declared.codec.Codec.TheVariants.{Opus, PCMU, PCMA, G722, CN, AmrWb, H264, H265}
use Rattle.media_types.specs.declared.codec.Codec.TheVariants.{H266, Vp8, Vp9, Av1, Tele, Rtx, Red, Null}
use Rattle.media_types.specs.declared.codec.Codec.TheVariants.{Unknown}
use Rattle.payload_core_audio.specs.AmrWb.{amr_wb_coding}
use Rattle.payload_core_audio.specs.Plain.{noise_coding, pieces_coding, plain_format, pieces_packing}
use Rattle.payload_core_audio.specs.Telephone.{telephone_coding}
use Rattle.payload_core_vpx.specs.Vp8.{vp8_coding}
use Rattle.payload_core_vpx.specs.Vp9.{vp9_coding}
use Rattle.payload_core_av1.specs.Av1Coding.{av1_coding}
use Rattle.h26x_payload_formats.specs.H264Coding.{h264_coding}
use Rattle.h26x_payload_units.specs.declared.layout.Layout.TheVariants as layouts
use Rattle.h26x_payload_formats.specs.Coding.{h265_h266_coding}

-- What is negotiated besides the codec: AMR-WB's layout, whether H.265 and H.266 use decoding order numbers, and the
-- clock rate of telephone events.
pub record Settings : Type 0 where
  pub octet_align : Bool
  pub donl : Bool
  pub clock_rate : ℕ

-- What `octet-align`, `sprop-max-don-diff` and a clock rate say: a layout that isn't given is the bandwidth-efficient
-- one (RFC 4867 8.1), and there are decoding order numbers if the greatest difference is given and above 0 (RFC
-- 7798 7.1, RFC 9328 7.2).
abbrev pub settings_of : Option Bool → Option ℕ → ℕ → Settings
settings_of octet_align max_don_diff clock_rate =
    record {
      octet_align = unwrap_or octet_align false;
      donl = nat_lt 0 (unwrap_or max_don_diff 0);
      clock_rate =
          clock_rate;
    }

-- The settings if nothing is said; telephone events have 8,000 Hz (RFC 4733 7.1.1).
abbrev pub first_settings : Settings
first_settings = settings_of None None 8000

-- RTX, RED, no codec, and an unknown one have no payload format of their own.
abbrev pub has_format : Codec → Bool
has_format Rtx = false
has_format Red = false
has_format Null = false
has_format Unknown = false
has_format _ = true

-- For these no sample is well-formed.
abbrev pub no_coding : Coding
no_coding = record {
  packing = pieces_packing;
  format = plain_format;
  IsReached = λ sender. ⊥;
  IsWellFormed = λ limit sample. ⊥;
  units = λ sender limit sample. [];
  after = λ sender limit sample. sender;
}

-- Options of what is sent: VP8's picture id 0, and VP9's inter-picture prediction flag.
pub record Forms : Type 0 where
  pub zero_id : Bool
  pub prediction : Bool

-- The options of a stream: for browsers, VP8 writes picture id 0, and VP9 tells which frames are predicted.
abbrev pub forms_for : Bool → Forms
forms_for for_browsers = record { zero_id = for_browsers; prediction = for_browsers }

abbrev pub plain_forms : Forms
plain_forms = record { zero_id = false; prediction = false }

abbrev pub with_zero_id : Forms → Forms
with_zero_id f = record { zero_id = true; prediction = f.prediction }

abbrev pub with_prediction : Forms → Forms
with_prediction f = record { zero_id = f.zero_id; prediction = true }

-- The payload format of a codec in these forms, with picture ids in VP8 or without.
abbrev pub coding_in : Forms → Settings → Bool → Codec → Coding
coding_in f s has_id Opus = pieces_coding
coding_in f s has_id PCMU = pieces_coding
coding_in f s has_id PCMA = pieces_coding
coding_in f s has_id G722 = pieces_coding
coding_in f s has_id CN = noise_coding
coding_in f s has_id AmrWb = amr_wb_coding s.octet_align
coding_in f s has_id H264 = h264_coding
coding_in f s has_id H265 = h265_h266_coding layouts.H265 s.donl
coding_in f s has_id H266 = h265_h266_coding layouts.H266 s.donl
coding_in f s has_id Vp8 = vp8_coding has_id f.zero_id
coding_in f s has_id Vp9 = vp9_coding f.prediction
coding_in f s has_id Av1 = av1_coding
coding_in f s has_id Tele = telephone_coding s.clock_rate
coding_in f s has_id _ = no_coding

-- The payload format of a codec if neither form was asked for.
abbrev pub coding_of : Settings → Bool → Codec → Coding
coding_of s has_id codec = coding_in plain_forms s has_id codec

-- Before the first sample: no parameter set is held back yet.
abbrev pub empty_places : Codec → List (Option (List ℕ))
empty_places H264 = None ∷ None ∷ []
empty_places H265 = None ∷ None ∷ None ∷ []
empty_places H266 = None ∷ None ∷ None ∷ []
empty_places _ = []

-- VP8 and VP9 start with the given picture id, the others with 0.
abbrev pub first_number : ℕ → Codec → ℕ
first_number picture_id Vp8 = picture_id
first_number picture_id Vp9 = picture_id
first_number picture_id _ = 0

abbrev pub first_sender : ℕ → Codec → Sender
first_sender picture_id codec = record { number = first_number picture_id codec; waiting = empty_places codec }

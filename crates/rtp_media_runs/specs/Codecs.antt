-- Every codec over two hops.
use Rattle.std.specs.Prelude.{ℕ, Bool}
use Rattle.h26x_payload.specs.Codings.{Forms, Settings, coding_in, first_sender}
use Rattle.h26x_payload_units.specs.Units.{units_of}
use Rattle.h26x_payload_formats.specs.H264Coding as h264
use Rattle.h26x_payload_formats.specs.H264Packing.{h264_rules}
use Rattle.h26x_payload_units.specs.declared.layout.Layout.TheVariants as layouts
use Rattle.h26x_payload_formats.specs.Coding as h265_h266
use Rattle.h26x_payload_formats.specs.Packing.{h265_h266_rules, least_limit}
use Rattle.media_types.specs.declared.codec.Codec.{Codec}
use Rattle.media_types.specs.declared.codec.Codec.TheVariants.{H264, H265, H266}
use Rattle.rtp_media_runs.specs.Again.{AnySample, GivesAgain, IsKeptBy, IsSame, Relation}
use Rattle.rtp_media_runs.specs.Kept.{AreKept, HasNone}

-- How a second packetizer's state relates to the first one's: it is the same; for H.264, H.265 and H.266 the second one
-- holds back no parameter set.
abbrev pub follows_in : Settings → Codec → Relation
follows_in s H264 = HasNone h264_rules h264.IsSendable
follows_in s H265 = HasNone (h265_h266_rules layouts.H265 s.donl) (h265_h266.IsSendable layouts.H265)
follows_in s H266 = HasNone (h265_h266_rules layouts.H266 s.donl) (h265_h266.IsSendable layouts.H266)
follows_in s _ = IsSame

-- The samples whose units survive two hops: all; for H.264, H.265 and H.266, those of which no unit is dropped for its
-- size or ends in a zero byte.
abbrev pub is_kept_in : Settings → Codec → IsKeptBy
is_kept_in s H264 = λ limit sample. AreKept h264_rules limit (units_of sample)
is_kept_in s H265 = λ limit sample. AreKept (h265_h266_rules layouts.H265 s.donl) (least_limit limit) (units_of sample)
is_kept_in s H266 = λ limit sample. AreKept (h265_h266_rules layouts.H266 s.donl) (least_limit limit) (units_of sample)
is_kept_in s _ = AnySample

-- With every option and setting, the units of each codec are sent again unchanged.
abbrev pub AllGiveAgain : Type 0
AllGiveAgain = (f : Forms) (s : Settings) (has_id : Bool) (codec : Codec)
    → GivesAgain (coding_in f s has_id codec) (follows_in s codec) (is_kept_in s codec)

-- A new packetizer follows another new one if both start with the same picture id.
abbrev pub FirstFollow : Type 0
FirstFollow = (s : Settings) (codec : Codec) (picture_id : ℕ)
    → follows_in s codec (first_sender picture_id codec) (first_sender picture_id codec)

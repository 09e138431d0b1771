-- Every codec over two hops, from what holds of each.
use Rattle.std.proofs.Common.{refl}
use Rattle.h26x_payload_units.specs.Units.{ComesBack, UnitsLaw}
use Rattle.payload_core_av1.specs.Samples.{KeptOnce, SampleLaw}
use Rattle.media_types.specs.declared.codec.Codec.TheVariants.{Opus, PCMU, PCMA, G722, CN, AmrWb, H264, H265}
use Rattle.media_types.specs.declared.codec.Codec.TheVariants.{H266, Vp8, Vp9, Av1, Tele, Rtx, Red, Null}
use Rattle.media_types.specs.declared.codec.Codec.TheVariants.{Unknown}
use Rattle.rtp_media_runs.specs.Codecs.{AllGiveAgain, FirstFollow}
use Rattle.rtp_media_runs.proofs.Audio.{noise-again, pieces-again, telephone-again}
use Rattle.rtp_media_runs.proofs.Frames.{vp8-again, vp9-again}
use Rattle.h26x_payload_units.specs.declared.layout.Layout.TheVariants as layouts
use Rattle.rtp_media_runs.proofs.H26x.{h264-again, h265_h266-again}
use Rattle.rtp_media_runs.proofs.Obus.{av1-again}
use Rattle.rtp_media_runs.proofs.Speech.{amr_wb-again}

pub all-give-again : UnitsLaw → ComesBack → SampleLaw → KeptOnce → AllGiveAgain
all-give-again units back obus once f s has_id Opus = pieces-again
all-give-again units back obus once f s has_id PCMU = pieces-again
all-give-again units back obus once f s has_id PCMA = pieces-again
all-give-again units back obus once f s has_id G722 = pieces-again
all-give-again units back obus once f s has_id CN = noise-again
all-give-again units back obus once f s has_id AmrWb = amr_wb-again s.octet_align
all-give-again units back obus once f s has_id H264 = h264-again units back
all-give-again units back obus once f s has_id H265 = h265_h266-again units back layouts.H265 s.donl
all-give-again units back obus once f s has_id H266 = h265_h266-again units back layouts.H266 s.donl
all-give-again units back obus once f s has_id Vp8 = vp8-again has_id f.zero_id
all-give-again units back obus once f s has_id Vp9 = vp9-again f.prediction
all-give-again units back obus once f s has_id Av1 = av1-again obus once
all-give-again units back obus once f s has_id Tele = telephone-again s.clock_rate
all-give-again units back obus once f s has_id Rtx = λ first second limit sample follows good kept. absurd good
all-give-again units back obus once f s has_id Red = λ first second limit sample follows good kept. absurd good
all-give-again units back obus once f s has_id Null = λ first second limit sample follows good kept. absurd good
all-give-again units back obus once f s has_id Unknown = λ first second limit sample follows good kept. absurd good

pub first-follow : FirstFollow
first-follow s Opus id = refl
first-follow s PCMU id = refl
first-follow s PCMA id = refl
first-follow s G722 id = refl
first-follow s CN id = refl
first-follow s AmrWb id = refl
first-follow s H264 id = record { in_place = tt; sound = tt; none = refl }
first-follow s H265 id = record { in_place = tt; sound = tt; none = refl }
first-follow s H266 id = record { in_place = tt; sound = tt; none = refl }
first-follow s Vp8 id = refl
first-follow s Vp9 id = refl
first-follow s Av1 id = refl
first-follow s Tele id = refl
first-follow s Rtx id = refl
first-follow s Red id = refl
first-follow s Null id = refl
first-follow s Unknown id = refl

-- Heads and tails are those of the formats.
use Rattle.std.proofs.Common.{refl}
use Rattle.media_types.specs.declared.codec.Codec.TheVariants.{Opus, PCMU, PCMA, G722, CN, AmrWb, H264, H265}
use Rattle.media_types.specs.declared.codec.Codec.TheVariants.{H266, Vp8, Vp9, Av1, Tele, Rtx, Red, Null}
use Rattle.media_types.specs.declared.codec.Codec.TheVariants.{Unknown}
use Rattle.packet_info.specs.Laws.{FollowsFormats}

pub follows_formats : FollowsFormats
follows_formats s has_id marker Opus packet = (refl, refl)
follows_formats s has_id marker PCMU packet = (refl, refl)
follows_formats s has_id marker PCMA packet = (refl, refl)
follows_formats s has_id marker G722 packet = (refl, refl)
follows_formats s has_id marker CN packet = (refl, refl)
follows_formats s has_id marker AmrWb packet = (refl, refl)
follows_formats s has_id marker H264 packet = (refl, refl)
follows_formats s has_id marker H265 packet = (refl, refl)
follows_formats s has_id marker H266 packet = (refl, refl)
follows_formats s has_id marker Vp8 packet = (refl, refl)
follows_formats s has_id marker Vp9 packet = (refl, refl)
follows_formats s has_id marker Av1 packet = (refl, refl)
follows_formats s has_id marker Tele packet = (refl, refl)
follows_formats s has_id marker Rtx packet = (refl, refl)
follows_formats s has_id marker Red packet = (refl, refl)
follows_formats s has_id marker Null packet = (refl, refl)
follows_formats s has_id marker Unknown packet = (refl, refl)

-- The first number of each kind of extension.
use Rattle.std.proofs.Common.{◌≡◌, ℕ, false, refl, ap, replicate}
use Rattle.std.specs.Prelude.{Option, None, ℕ}
use Rattle.rtp_wire.specs.declared.extension.Extension.{Extension}
use Rattle.rtp_wire.specs.declared.extension.Extension.TheVariants.{AbsoluteSendTime, AbsoluteCaptureTime}
use Rattle.rtp_wire.specs.declared.extension.Extension.TheVariants.{AudioLevel, VideoOrientation}
use Rattle.rtp_wire.specs.declared.extension.Extension.TheVariants.{TransportSequenceNumber, PlayoutDelay}
use Rattle.rtp_wire.specs.declared.extension.Extension.TheVariants.{VideoContentType, RtpStreamId}
use Rattle.rtp_wire.specs.declared.extension.Extension.TheVariants.{RepairedRtpStreamId, RtpMid}
use Rattle.rtp_wire.specs.declared.extension.Extension.TheVariants.{UnknownUri}
use Rattle.rtp_wire.specs.declared.values.ExtensionValues.{ExtensionValues}
use Rattle.rtp_wire.specs.Elements.{Numbering, slot, holds, carried_by, carried_at}
use Rattle.rtp_wire.specs.Seen.{HasSeen}

-- no number has been looked at
pub seen_start : (map : Numbering) → HasSeen (replicate 11 false) map 0
seen_start map AbsoluteSendTime h = refl
seen_start map AbsoluteCaptureTime h = refl
seen_start map AudioLevel h = refl
seen_start map VideoOrientation h = refl
seen_start map TransportSequenceNumber h = refl
seen_start map PlayoutDelay h = refl
seen_start map VideoContentType h = refl
seen_start map RtpStreamId h = refl
seen_start map RepairedRtpStreamId h = refl
seen_start map RtpMid h = refl
seen_start map (UnknownUri uri) h = refl

-- what a number carries, by whether its kind was seen
pub carried_none : (map : Numbering) (n : ℕ) (v : ExtensionValues) → slot map n ≡ None → carried_at map n v ≡ None
carried_none map n v none = ap (λ (o : Option Extension). carried_by o (holds map n) v) none

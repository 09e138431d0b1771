-- Elements that fit the one-byte form by the numbers of their map and their names alone.
use Rattle.std.proofs.Common.{◌≡◌, ℕ, zero, suc, ◌<◌, ◌≤◌, Bool, true, false, ◌&&◌, refl, sym, ap, ◌∙◌, arith, List}
use Rattle.std.proofs.Common.{length}
use Rattle.std.specs.Prelude.{if◌then◌else◌, Option, Some, None, IfSome, nat_lt, ℤ}
use Rattle.std.proofs.lemmas.Bool.Decides.{nat_tests}
use Rattle.rtp_wire.specs.declared.extension.Extension.{Extension}
use Rattle.rtp_wire.specs.declared.extension.Extension.TheVariants.{AbsoluteSendTime, AbsoluteCaptureTime}
use Rattle.rtp_wire.specs.declared.extension.Extension.TheVariants.{AudioLevel, VideoOrientation}
use Rattle.rtp_wire.specs.declared.extension.Extension.TheVariants.{TransportSequenceNumber, PlayoutDelay}
use Rattle.rtp_wire.specs.declared.extension.Extension.TheVariants.{VideoContentType, RtpStreamId}
use Rattle.rtp_wire.specs.declared.extension.Extension.TheVariants.{RepairedRtpStreamId, RtpMid}
use Rattle.rtp_wire.specs.declared.extension.Extension.TheVariants.{UnknownUri}
use Rattle.rtp_wire.specs.declared.values.ExtensionValues.{ExtensionValues}
use Rattle.rtp_wire.specs.declared.values.AbsCaptureTime.{AbsCaptureTime}
use Rattle.rtp_wire.specs.Carried.{send_bytes, capture_bytes, level_number, level_byte, level_bytes}
use Rattle.rtp_wire.specs.Carried.{byte_bytes, transport_bytes, delay_text, delay_bytes, value_bytes}
use Rattle.rtp_wire.specs.Carried.{AreValues}
use Rattle.rtp_wire.specs.Elements.{slot, holds, carried_by, carried_at, element_if, place_elements}
use Rattle.rtp_wire.specs.Elements.{elements_to, are_one_byte}
use Rattle.rtp_wire.specs.Values.{Numbering, written_elements}
use Rattle.rtp_wire.specs.Names.{HasFullNames}
use Rattle.rtp_wire.proofs.BlockLaws.{are_one_byte-append, carried-short, one_element-fits}
use Rattle.rtp_wire.proofs.SeenLaws.{carried_none}

byte-full : (o : Option ℕ) → IfSome (byte_bytes o) (λ bytes. 1 ≤ length bytes)
byte-full None = tt
byte-full (Some n) = omega arith

-- the bytes of a value are some, but for an empty name's
value-full : (ext : Extension) (v : ExtensionValues) → HasFullNames v
    → IfSome (value_bytes ext v) (λ bytes. 1 ≤ length bytes)
value-full AbsoluteSendTime v h = send v.abs_send_time where
  send : (o : Option ℕ) → IfSome (send_bytes o) (λ bytes. 1 ≤ length bytes)
  send None = tt
  send (Some t) = omega arith
value-full AbsoluteCaptureTime v h = capture v.abs_capture_time where
  capture : (o : Option AbsCaptureTime) → IfSome (capture_bytes o) (λ bytes. 1 ≤ length bytes)
  capture None = tt
  capture (Some t) = omega arith
value-full AudioLevel v h = level v.audio_level v.voice_activity where
  one : (o : Option ℕ) (a : Bool) → IfSome (level_byte o a) (λ bytes. 1 ≤ length bytes)
  one None a = tt
  one (Some n) a = omega arith

  level : (l : Option ℤ) (a : Option Bool) → IfSome (level_bytes l a) (λ bytes. 1 ≤ length bytes)
  level None a = tt
  level (Some z) None = tt
  level (Some z) (Some a) = one (level_number z) a
value-full VideoOrientation v h = byte-full v.video_orientation
value-full TransportSequenceNumber v h = transport v.transport_cc where
  transport : (o : Option ℕ) → IfSome (transport_bytes o) (λ bytes. 1 ≤ length bytes)
  transport None = tt
  transport (Some n) = omega arith
value-full PlayoutDelay v h = delay v.play_delay_min v.play_delay_max where
  text : (t : Bool) (a b : ℕ) → IfSome (delay_text t a b) (λ bytes. 1 ≤ length bytes)
  text true a b = omega arith
  text false a b = tt

  delay : (a b : Option ℕ) → IfSome (delay_bytes a b) (λ bytes. 1 ≤ length bytes)
  delay None b = tt
  delay (Some a) None = tt
  delay (Some a) (Some b) = text (nat_lt a 4096 && nat_lt b 4096) a b
value-full VideoContentType v h = byte-full v.video_content_type
value-full RtpStreamId v h = h.rid
value-full RepairedRtpStreamId v h = h.rid_repair
value-full RtpMid v h = h.mid
value-full (UnknownUri uri) v h = tt

carried-full : (o : Option Extension) (held : Extension → Bool) (v : ExtensionValues) → HasFullNames v
    → IfSome (carried_by o held v) (λ bytes. 1 ≤ length bytes)
carried-full None held v h = tt
carried-full (Some ext) held v h = go (held ext) where
  go : (b : Bool) → IfSome (if b then None else value_bytes ext v) (λ bytes. 1 ≤ length bytes)
  go true = tt
  go false = value-full ext v h

element-fits : (n : ℕ) → n < 14 → (o : Option (List ℕ)) → IfSome o (λ bytes. 1 ≤ length bytes)
    → IfSome o (λ bytes. length bytes ≤ 16) → are_one_byte (element_if (suc n) o) ≡ true
element-fits n h None some short = refl
element-fits n h (Some bytes) some short =
    one_element-fits n (length bytes) (Some bytes) refl ∙ grind (arith, nat_tests, h, some, short)

both-fit : (map : Numbering) (v : ExtensionValues) (n : ℕ) → are_one_byte (elements_to map v n) ≡ true
    → are_one_byte (place_elements map v n) ≡ true → are_one_byte (elements_to map v (suc n)) ≡ true
both-fit map v n before here =
    are_one_byte-append (elements_to map v n) (place_elements map v n) ∙ (λ i. before i && here i)

elements-fit : (map : Numbering) (v : ExtensionValues) → AreValues v → HasFullNames v → (n : ℕ) → n ≤ 14
    → are_one_byte (elements_to map v n) ≡ true
elements-fit map v are full zero h = refl
elements-fit map v are full (suc n) h =
    both-fit map v n (elements-fit map v are full n (omega arith))
    (element-fits n (omega arith) (carried_at map n v) (carried-full (slot map n) (holds map n) v full)
    (carried-short (slot map n) (holds map n) v are))

nothing-fits : (map : Numbering) (v : ExtensionValues) (n : ℕ) → slot map n ≡ None
    → are_one_byte (place_elements map v n) ≡ true
nothing-fits map v n none =
    ap (λ (o : Option (List ℕ)). are_one_byte (element_if (suc n) o)) (carried_none map n v none)

-- no number is above 14, and no name is empty
pub all-fit : (map : Numbering) (v : ExtensionValues) → AreValues v → HasFullNames v → slot map 14 ≡ None
    → slot map 15 ≡ None → true ≡ are_one_byte (written_elements map v)
unfolding written_elements
all-fit map v are full last very_last =
    let to_15 = both-fit map v 14 (elements-fit map v are full 14 (omega arith)) (nothing-fits map v 14 last) in
    sym (both-fit map v 15 to_15 (nothing-fits map v 15 very_last))

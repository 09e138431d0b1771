-- Values of header extensions that are carried twice.
use Rattle.std.proofs.Common.{◌≡◌, ℕ, Bool, true, false, refl, ap}
use Rattle.std.specs.Prelude.{ℤ, if◌then◌else◌, IfSome, Option, None, not}
use Rattle.rtp_wire.specs.Carried.{AreValues, has_delay, has_level, least_image, level_image, most_image}
use Rattle.rtp_wire.specs.Carried.{values_for, voice_image}
use Rattle.rtp_wire.specs.Maps.{is_empty_map}
use Rattle.rtp_wire.specs.Values.{Numbering, absent, image_values, is_mapped}
use Rattle.rtp_wire.specs.declared.extension.Extension.{Extension}
use Rattle.rtp_wire.specs.declared.extension.Extension.TheVariants.{AbsoluteCaptureTime, AudioLevel}
use Rattle.rtp_wire.specs.declared.extension.Extension.TheVariants.{PlayoutDelay}
use Rattle.rtp_wire.specs.declared.extension.Extension.TheVariants.{RepairedRtpStreamId, RtpMid, RtpStreamId}
use Rattle.rtp_wire.specs.declared.extension.Extension.TheVariants.{TransportSequenceNumber}
use Rattle.rtp_wire.specs.declared.extension.Extension.TheVariants.{VideoContentType, VideoOrientation}
use Rattle.rtp_wire.specs.declared.values.ExtensionValues.{ExtensionValues}
use Rattle.rtp_media_runs.specs.Units.{arriving_values}
use Rattle.rtp_media_runs.specs.Hops.{without_send_time}

twice : {A : Type 0} (b : Bool) (x : Option A) → (if b then (if b then x else None) else None) ≡ (if b then x else None)
twice true x = refl
twice false x = refl

level-twice : (l : Option ℤ) (a : Option Bool) (h : Bool) → has_level l a ≡ h
    → let once : Option ℤ = if h then l else None in let voice : Option Bool = if h then a else None in
    (if has_level once voice then once else None) ≡ once
level-twice l a true e = ap (λ (b : Bool). if b then l else None) e
level-twice l a false e = refl

voice-twice : (l : Option ℤ) (a : Option Bool) (h : Bool) → has_level l a ≡ h
    → let once : Option ℤ = if h then l else None in let voice : Option Bool = if h then a else None in
    (if has_level once voice then voice else None) ≡ voice
voice-twice l a true e = ap (λ (b : Bool). if b then a else None) e
voice-twice l a false e = refl

least-twice : (l a : Option ℕ) (h : Bool) → has_delay l a ≡ h
    → let once : Option ℕ = if h then l else None in let most : Option ℕ = if h then a else None in
    (if has_delay once most then once else None) ≡ once
least-twice l a true e = ap (λ (b : Bool). if b then l else None) e
least-twice l a false e = refl

most-twice : (l a : Option ℕ) (h : Bool) → has_delay l a ≡ h
    → let once : Option ℕ = if h then l else None in let most : Option ℕ = if h then a else None in
    (if has_delay once most then most else None) ≡ most
most-twice l a true e = ap (λ (b : Bool). if b then a else None) e
most-twice l a false e = refl

-- of two values that are carried together, each is carried again
module _ {A B : Type 0} (f : Option A → Option B → Option A) (g : Option A → Option B → Option B) where
  first-of-two : (b : Bool) (x : Option A) (y : Option B) → f (f x y) (g x y) ≡ f x y
      → (if b then f (if b then f x y else None) (if b then g x y else None) else None) ≡ (if b then f x y else None)
  first-of-two true x y e = e
  first-of-two false x y e = refl

  second-of-two : (b : Bool) (x : Option A) (y : Option B) → g (f x y) (g x y) ≡ g x y
      → (if b then g (if b then f x y else None) (if b then g x y else None) else None) ≡ (if b then g x y else None)
  second-of-two true x y e = e
  second-of-two false x y e = refl

values-twice : (p : Extension → Bool) (v : ExtensionValues)
    → without_send_time (values_for p (values_for p v)) ≡ without_send_time (values_for p v)
values-twice p v = λ i. record (without_send_time (values_for p v)) {
  audio_level = first-of-two level_image voice_image (p AudioLevel) v.audio_level v.voice_activity
      (level-twice v.audio_level v.voice_activity (has_level v.audio_level v.voice_activity) refl) i;
  voice_activity = second-of-two level_image voice_image (p AudioLevel) v.audio_level v.voice_activity
      (voice-twice v.audio_level v.voice_activity (has_level v.audio_level v.voice_activity) refl) i;
  transport_cc = twice (p TransportSequenceNumber) v.transport_cc i;
  mid = twice (p RtpMid) v.mid i;
  rid = twice (p RtpStreamId) v.rid i;
  rid_repair = twice (p RepairedRtpStreamId) v.rid_repair i;
  video_orientation = twice (p VideoOrientation) v.video_orientation i;
  play_delay_min = first-of-two least_image most_image (p PlayoutDelay) v.play_delay_min v.play_delay_max
      (least-twice v.play_delay_min v.play_delay_max (has_delay v.play_delay_min v.play_delay_max) refl) i;
  play_delay_max = second-of-two least_image most_image (p PlayoutDelay) v.play_delay_min v.play_delay_max
      (most-twice v.play_delay_min v.play_delay_max (has_delay v.play_delay_min v.play_delay_max) refl) i;
  video_content_type = twice (p VideoContentType) v.video_content_type i;
  abs_capture_time = twice (p AbsoluteCaptureTime) v.abs_capture_time i;
}

-- carried twice, values are what they are when they are carried once, but for the time at which they left
pub arriving-twice : (map : Numbering) (v : ExtensionValues)
    → without_send_time (arriving_values map (arriving_values map v)) ≡ without_send_time (arriving_values map v)
unfolding image_values
arriving-twice map v = go (not (is_empty_map map)) where
  go : (b : Bool) → without_send_time
      (if b then image_values map (if b then image_values map v else absent) else absent)
      ≡ without_send_time (if b then image_values map v else absent)
  go true = values-twice (is_mapped map) v
  go false = refl

still-some : {A : Type 0} (P : A → Type 0) (b : Bool) (x : Option A) → IfSome x P → IfSome (if b then x else None) P
still-some P true x is = is
still-some P false x is = tt

for-are-values : (p : Extension → Bool) (v : ExtensionValues) → AreValues v → AreValues (values_for p v)
for-are-values p v are = record {
  transport_cc = still-some _ (p TransportSequenceNumber) v.transport_cc are.transport_cc;
  mid = still-some _ (p RtpMid) v.mid are.mid;
  rid = still-some _ (p RtpStreamId) v.rid are.rid;
  rid_repair = still-some _ (p RepairedRtpStreamId) v.rid_repair are.rid_repair;
  video_orientation = still-some _ (p VideoOrientation) v.video_orientation are.video_orientation;
  video_content_type = still-some _ (p VideoContentType) v.video_content_type are.video_content_type;
  abs_capture_time = still-some _ (p AbsoluteCaptureTime) v.abs_capture_time are.abs_capture_time;
}

absent-are-values : AreValues absent
absent-are-values = record {
  transport_cc = tt;
  mid = tt;
  rid = tt;
  rid_repair = tt;
  video_orientation = tt;
  video_content_type = tt;
  abs_capture_time = tt;
}

-- and they are in range
pub arriving-are-values : (map : Numbering) (v : ExtensionValues) → AreValues v → AreValues (arriving_values map v)
unfolding image_values
arriving-are-values map v are = go (not (is_empty_map map)) where
  go : (b : Bool) → AreValues (if b then image_values map v else absent)
  go true = for-are-values (is_mapped map) v are
  go false = absent-are-values

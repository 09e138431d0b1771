-- Each kind's bytes hold its wire image.
use Rattle.std.proofs.Common.{◌≡◌, ℕ, suc, ◌+◌, ◌*◌, ◌/◌, ◌%◌, ◌<◌, ◌^◌, Bool, true, false, true≢false, ◌&&◌, ◌||◌}
use Rattle.std.proofs.Common.{refl, sym, ap, ◌∙◌, arith, List}
use Rattle.std.specs.Prelude.{if◌then◌else◌, Option, Some, None, IfSome, nat_lt, ◌==◌, ℤ, pos, negsuc, FitsSigned}
use Rattle.std.specs.Int.{w16, w64, to_be_bytes, from_be_bytes, cast_signed, cast_unsigned}
use Rattle.std.proofs.lemmas.Bool.Decides.{nat_tests}
use Rattle.std.proofs.lemmas.Nat.{from_be_bytes-to_be_bytes_2, from_be_bytes-to_be_bytes_8}
use Rattle.std.proofs.lemmas.Int.{to_z-of_z}
use Rattle.std.proofs.lemmas.Str.{utf8_valid_len-IsUtf8}
use Rattle.rtp_wire.specs.Name.{name_of, IsName}
use Rattle.rtp_wire.proofs.NameLaws.{IsUtf8-name}
use Rattle.rtp_wire.specs.declared.extension.Extension.{Extension}
use Rattle.rtp_wire.specs.declared.extension.Extension.TheVariants.{AbsoluteSendTime, AbsoluteCaptureTime}
use Rattle.rtp_wire.specs.declared.extension.Extension.TheVariants.{AudioLevel, VideoOrientation}
use Rattle.rtp_wire.specs.declared.extension.Extension.TheVariants.{TransportSequenceNumber, PlayoutDelay}
use Rattle.rtp_wire.specs.declared.extension.Extension.TheVariants.{VideoContentType, RtpStreamId}
use Rattle.rtp_wire.specs.declared.extension.Extension.TheVariants.{RepairedRtpStreamId, RtpMid}
use Rattle.rtp_wire.specs.declared.extension.Extension.TheVariants.{UnknownUri}
use Rattle.rtp_wire.specs.declared.values.ExtensionValues.{ExtensionValues}
use Rattle.rtp_wire.specs.declared.values.AbsCaptureTime.{AbsCaptureTime}
use Rattle.rtp_wire.specs.Kinds.{same}
use Rattle.rtp_wire.specs.Carried.{bit, level_number, level_byte, level_bytes, send_number, sent_time}
use Rattle.rtp_wire.specs.Carried.{send_bytes, transport_bytes, byte_bytes, delay_bytes, capture_bytes}
use Rattle.rtp_wire.specs.Carried.{value_bytes, is_text, minus, with_value, has_level, is_number}
use Rattle.rtp_wire.specs.Carried.{level_image, voice_image, send_image, delay_text, has_delay}
use Rattle.rtp_wire.specs.Carried.{least_image, most_image, values_for, IsCapture, AreValues}

-- one kind more
abbrev pub and_this : Extension → (Extension → Bool) → Extension → Bool
and_this ext picks k = same ext k || picks k

abbrev pub with_carried : Extension → Option (List ℕ) → ExtensionValues → ExtensionValues
with_carried ext None w = w
with_carried ext (Some bytes) w = with_value ext bytes w

if-none : {A : Type 0} (b : Bool) (x : Option A) → x ≡ None → (if b then x else None) ≡ x
if-none true x e = refl
if-none false x e = sym e

pub eq-true : (a b : ℕ) → a ≡ b → (a == b) ≡ true
eq-true a b h = grind (arith, nat_tests)

if-then : {A : Type 0} (b : Bool) (x y : A) → b ≡ true → (if b then x else y) ≡ x
if-then true x y h = refl
if-then false x y h = absurd (true≢false (sym h))

if-else : {A : Type 0} (b : Bool) (x y : A) → b ≡ false → (if b then x else y) ≡ y
if-else true x y h = absurd (true≢false h)
if-else false x y h = refl

if-some : {A : Type 0} (b : Bool) (x y : A) → (if b then Some x else None) ≡ Some y → (b ≡ true) × (x ≡ y)
if-some true x y h = (refl, cc)
if-some false x y h = absurd cc

eq-of : (a b : ℕ) → (a == b) ≡ true → a ≡ b
eq-of a b h = grind (arith, nat_tests)

lt-of : (a b : ℕ) → nat_lt a b ≡ true → a < b
lt-of a b h = grind (arith, nat_tests)

parts : (a b : Bool) → (a && b) ≡ true → (a ≡ true) × (b ≡ true)
parts true true h = (refl, refl)
parts true false h = absurd (true≢false (sym h))
parts false b h = absurd (true≢false (sym h))

-- a level is read back
level_number-some : (z : ℤ) (k : ℕ) → level_number z ≡ Some k → (k < 128) × (minus k ≡ z)
level_number-some (pos n) k e =
    let f = if-some (n == 0) 0 k e in
    let g : n ≡ 0 = eq-of n 0 f.0 in
    (omega (arith, f.1), ap minus (sym f.1) ∙ ap pos (sym g))
level_number-some (negsuc n) k e =
    let f = if-some (nat_lt n 127) (n + 1) k e in
    let g : n < 127 = lt-of n 127 f.0 in
    let s : k ≡ suc n = omega (arith, f.1) in
    (omega (arith, f.1), ap minus s)

level-low : (a : Bool) (k : ℕ) → k < 128 → (128 * bit a + k) % 128 ≡ k
level-low true k h = omega arith
level-low false k h = omega arith

level-high : (a : Bool) (k : ℕ) → k < 128 → ((128 * bit a + k) / 128 == 1) ≡ a
level-high true k h = grind (arith, nat_tests)
level-high false k h = grind (arith, nat_tests)

cast-fits : (z : ℤ) → FitsSigned w64 z → cast_unsigned w64 z < 2 ^ 64
cast-fits (pos n) h = omega (arith, h.sfits)
cast-fits (negsuc n) h = omega arith

send-again : (n : ℕ) → n / 65536 * 65536 + n / 256 % 256 * 256 + n % 256 ≡ n
send-again n = omega arith

least-again : (least most : ℕ) → most < 4096 → least / 16 * 16 + (least % 16 * 16 + most / 256) / 16 ≡ least
least-again least most h = omega arith

most-again : (least most : ℕ) → most < 4096 → (least % 16 * 16 + most / 256) % 16 * 256 + most % 256 ≡ most
most-again least most h = omega arith

is_text-name : (n : ℕ) (text : List ℕ) → IsName n text → is_text text ≡ true
is_text-name n text h = eq-true _ _ (utf8_valid_len-IsUtf8 text (IsUtf8-name n text h))

module _ (p : Extension → Bool) (v : ExtensionValues) where
  carry-transport : (o : Option ℕ) → v.transport_cc ≡ o → IfSome o (λ n. n < 2 ^ 16) →
      with_carried TransportSequenceNumber (transport_bytes o) (values_for p v)
      ≡ values_for (and_this TransportSequenceNumber p) v
  carry-transport None e h = λ i. record (values_for p v)
      { transport_cc = if-none (p TransportSequenceNumber) v.transport_cc e i }
  carry-transport (Some n) e h =
      let field : Some (from_be_bytes w16 (to_be_bytes w16 n)) ≡ v.transport_cc =
      ap (λ (k : ℕ). Some k) (from_be_bytes-to_be_bytes_2 n h) ∙ sym e in
      λ i. record (values_for p v) { transport_cc = field i }

  carry-send : (o : Option ℕ) → v.abs_send_time ≡ o →
      with_carried AbsoluteSendTime (send_bytes o) (values_for p v) ≡ values_for (and_this AbsoluteSendTime p) v
  carry-send None e = λ i. record (values_for p v)
      { abs_send_time = if-none (p AbsoluteSendTime) (send_image v.abs_send_time) (ap send_image e) i }
  carry-send (Some t) e =
      let n = send_number t in
      let field : Some (sent_time (n / 65536 * 65536 + n / 256 % 256 * 256 + n % 256)) ≡ send_image v.abs_send_time =
      ap (λ (k : ℕ). Some (sent_time k)) (send-again n) ∙ ap send_image (sym e) in
      λ i. record (values_for p v) { abs_send_time = field i }

  carry-orientation : (o : Option ℕ) → v.video_orientation ≡ o → IfSome o (λ n. n < 4) →
      with_carried VideoOrientation (byte_bytes o) (values_for p v) ≡ values_for (and_this VideoOrientation p) v
  carry-orientation None e h = λ i. record (values_for p v)
      { video_orientation = if-none (p VideoOrientation) v.video_orientation e i }
  carry-orientation (Some n) e h =
      let low : n % 4 ≡ n = omega (arith, h) in
      let field : Some (n % 4) ≡ v.video_orientation = ap (λ (k : ℕ). Some k) low ∙ sym e in
      λ i. record (values_for p v) { video_orientation = field i }

  carry-content : (o : Option ℕ) → v.video_content_type ≡ o →
      with_carried VideoContentType (byte_bytes o) (values_for p v) ≡ values_for (and_this VideoContentType p) v
  carry-content None e = λ i. record (values_for p v)
      { video_content_type = if-none (p VideoContentType) v.video_content_type e i }
  carry-content (Some n) e = λ i. record (values_for p v) { video_content_type = sym e i }

  carry-level : (z : ℤ) (a : Bool) (o : Option ℕ) → level_number z ≡ o → v.audio_level ≡ Some z → v.voice_activity
      ≡ Some a →
      with_carried AudioLevel (level_byte o a) (values_for p v) ≡ values_for (and_this AudioLevel p) v
  carry-level z a None n e f =
      let not : has_level v.audio_level v.voice_activity ≡ false = (λ i. has_level (e i) (f i)) ∙ ap is_number n in
      let level = if-none (p AudioLevel) (level_image v.audio_level v.voice_activity) (if-else _ _ _ not) in
      let voice = if-none (p AudioLevel) (voice_image v.audio_level v.voice_activity) (if-else _ _ _ not) in
      λ i. record (values_for p v) { audio_level = level i; voice_activity = voice i }
  carry-level z a (Some k) n e f =
      let there : has_level v.audio_level v.voice_activity ≡ true = (λ i. has_level (e i) (f i)) ∙ ap is_number n in
      let number = level_number-some z k n in
      let level : Some (minus ((128 * bit a + k) % 128)) ≡ level_image v.audio_level v.voice_activity =
      ap (λ (m : ℕ). Some (minus m)) (level-low a k number.0) ∙ ap (λ (m : ℤ). Some m) number.1 ∙ sym e
      ∙ sym (if-then _ _ _ there) in
      let voice : Some ((128 * bit a + k) / 128 == 1) ≡ voice_image v.audio_level v.voice_activity =
      ap (λ (b : Bool). Some b) (level-high a k number.0) ∙ sym f ∙ sym (if-then _ _ _ there) in
      λ i. record (values_for p v) { audio_level = level i; voice_activity = voice i }

  carry-audio : (l : Option ℤ) (a : Option Bool) → v.audio_level ≡ l → v.voice_activity ≡ a →
      with_carried AudioLevel (level_bytes l a) (values_for p v) ≡ values_for (and_this AudioLevel p) v
  carry-audio None a e f =
      let not : has_level v.audio_level v.voice_activity ≡ false = λ i. has_level (e i) (f i) in
      let level = if-none (p AudioLevel) (level_image v.audio_level v.voice_activity) (if-else _ _ _ not) in
      let voice = if-none (p AudioLevel) (voice_image v.audio_level v.voice_activity) (if-else _ _ _ not) in
      λ i. record (values_for p v) { audio_level = level i; voice_activity = voice i }
  carry-audio (Some z) None e f =
      let not : has_level v.audio_level v.voice_activity ≡ false = λ i. has_level (e i) (f i) in
      let level = if-none (p AudioLevel) (level_image v.audio_level v.voice_activity) (if-else _ _ _ not) in
      let voice = if-none (p AudioLevel) (voice_image v.audio_level v.voice_activity) (if-else _ _ _ not) in
      λ i. record (values_for p v) { audio_level = level i; voice_activity = voice i }
  carry-audio (Some z) (Some a) e f = carry-level z a (level_number z) refl e f

  carry-both : (a b : ℕ) (t : Bool) → (nat_lt a 4096 && nat_lt b 4096) ≡ t → v.play_delay_min ≡ Some a
      → v.play_delay_max ≡ Some b →
      with_carried PlayoutDelay (delay_text t a b) (values_for p v) ≡ values_for (and_this PlayoutDelay p) v
  carry-both a b false n e f =
      let not : has_delay v.play_delay_min v.play_delay_max ≡ false = (λ i. has_delay (e i) (f i)) ∙ n in
      let least = if-none (p PlayoutDelay) (least_image v.play_delay_min v.play_delay_max) (if-else _ _ _ not) in
      let most = if-none (p PlayoutDelay) (most_image v.play_delay_min v.play_delay_max) (if-else _ _ _ not) in
      λ i. record (values_for p v) { play_delay_min = least i; play_delay_max = most i }
  carry-both a b true n e f =
      let there : has_delay v.play_delay_min v.play_delay_max ≡ true = (λ i. has_delay (e i) (f i)) ∙ n in
      let small : b < 4096 = lt-of b 4096 (parts _ _ n).1 in
      let least : Some (a / 16 * 16 + (a % 16 * 16 + b / 256) / 16) ≡ least_image v.play_delay_min v.play_delay_max =
      ap (λ (m : ℕ). Some m) (least-again a b small) ∙ sym e ∙ sym (if-then _ _ _ there) in
      let most : Some ((a % 16 * 16 + b / 256) % 16 * 256 + b % 256) ≡ most_image v.play_delay_min v.play_delay_max =
      ap (λ (m : ℕ). Some m) (most-again a b small) ∙ sym f ∙ sym (if-then _ _ _ there) in
      λ i. record (values_for p v) { play_delay_min = least i; play_delay_max = most i }

  carry-delay : (a b : Option ℕ) → v.play_delay_min ≡ a → v.play_delay_max ≡ b →
      with_carried PlayoutDelay (delay_bytes a b) (values_for p v) ≡ values_for (and_this PlayoutDelay p) v
  carry-delay None b e f =
      let not : has_delay v.play_delay_min v.play_delay_max ≡ false = λ i. has_delay (e i) (f i) in
      let least = if-none (p PlayoutDelay) (least_image v.play_delay_min v.play_delay_max) (if-else _ _ _ not) in
      let most = if-none (p PlayoutDelay) (most_image v.play_delay_min v.play_delay_max) (if-else _ _ _ not) in
      λ i. record (values_for p v) { play_delay_min = least i; play_delay_max = most i }
  carry-delay (Some a) None e f =
      let not : has_delay v.play_delay_min v.play_delay_max ≡ false = λ i. has_delay (e i) (f i) in
      let least = if-none (p PlayoutDelay) (least_image v.play_delay_min v.play_delay_max) (if-else _ _ _ not) in
      let most = if-none (p PlayoutDelay) (most_image v.play_delay_min v.play_delay_max) (if-else _ _ _ not) in
      λ i. record (values_for p v) { play_delay_min = least i; play_delay_max = most i }
  carry-delay (Some a) (Some b) e f = carry-both a b (nat_lt a 4096 && nat_lt b 4096) refl e f

  carry-time : (c : ℕ) (o : Option ℤ) → v.abs_capture_time ≡ Some (record { capture_time = c; clock_offset = o })
      → c < 2 ^ 64 → IfSome o (λ z. FitsSigned w64 z) →
      with_carried AbsoluteCaptureTime (capture_bytes (Some (record { capture_time = c; clock_offset = o })))
      (values_for p v) ≡ values_for (and_this AbsoluteCaptureTime p) v
  carry-time c None e h k =
      let field = ap (λ (m : ℕ). let t : AbsCaptureTime = record { capture_time = m; clock_offset = None } in Some t)
      (from_be_bytes-to_be_bytes_8 c h) ∙ sym e in
      λ i. record (values_for p v) { abs_capture_time = field i }
  carry-time c (Some z) e h k =
      let small : cast_unsigned w64 z < 2 ^ 64 = cast-fits z k in
      let back : cast_signed w64 (from_be_bytes w64 (to_be_bytes w64 (cast_unsigned w64 z))) ≡ z =
      ap (cast_signed w64) (from_be_bytes-to_be_bytes_8 (cast_unsigned w64 z) small) ∙ to_z-of_z w64 z k in
      let this = from_be_bytes-to_be_bytes_8 c h in
      let field = (λ i. let t : AbsCaptureTime = record { capture_time = this i; clock_offset = Some (back i) } in
      Some t) ∙ sym e in
      λ i. record (values_for p v) { abs_capture_time = field i }

  carry-capture : (o : Option AbsCaptureTime) → v.abs_capture_time ≡ o → IfSome o IsCapture →
      with_carried AbsoluteCaptureTime (capture_bytes o) (values_for p v)
      ≡ values_for (and_this AbsoluteCaptureTime p) v
  carry-capture None e h = λ i. record (values_for p v)
      { abs_capture_time = if-none (p AbsoluteCaptureTime) v.abs_capture_time e i }
  carry-capture (Some t) e h = carry-time t.capture_time t.clock_offset e h.capture_time h.clock_offset

  carry-mid : (o : Option (List ℕ)) → v.mid ≡ o → IfSome o (λ text. IsName 16 text) →
      with_carried RtpMid o (values_for p v) ≡ values_for (and_this RtpMid p) v
  carry-mid None e h = λ i. record (values_for p v) { mid = if-none (p RtpMid) v.mid e i }
  carry-mid (Some text) e h =
      let text_is : is_text text ≡ true = is_text-name 16 text h in
      let field : Some (name_of 16 text) ≡ v.mid = ap (λ (ys : List ℕ). Some ys) h ∙ sym e in
      if-then (is_text text) _ _ text_is ∙ (λ i. record (values_for p v) { mid = field i })

  carry-rid : (o : Option (List ℕ)) → v.rid ≡ o → IfSome o (λ text. IsName 8 text) →
      with_carried RtpStreamId o (values_for p v) ≡ values_for (and_this RtpStreamId p) v
  carry-rid None e h = λ i. record (values_for p v) { rid = if-none (p RtpStreamId) v.rid e i }
  carry-rid (Some text) e h =
      let text_is : is_text text ≡ true = is_text-name 8 text h in
      let field : Some (name_of 8 text) ≡ v.rid = ap (λ (ys : List ℕ). Some ys) h ∙ sym e in
      if-then (is_text text) _ _ text_is ∙ (λ i. record (values_for p v) { rid = field i })

  carry-repair : (o : Option (List ℕ)) → v.rid_repair ≡ o → IfSome o (λ text. IsName 8 text) →
      with_carried RepairedRtpStreamId o (values_for p v) ≡ values_for (and_this RepairedRtpStreamId p) v
  carry-repair None e h = λ i. record (values_for p v) { rid_repair = if-none (p RepairedRtpStreamId) v.rid_repair e i }
  carry-repair (Some text) e h =
      let text_is : is_text text ≡ true = is_text-name 8 text h in
      let field : Some (name_of 8 text) ≡ v.rid_repair = ap (λ (ys : List ℕ). Some ys) h ∙ sym e in
      if-then (is_text text) _ _ text_is ∙ (λ i. record (values_for p v) { rid_repair = field i })

-- Reading what an extension carries adds its wire image.
pub carry : (ext : Extension) (p : Extension → Bool) (v : ExtensionValues) → AreValues v →
    with_carried ext (value_bytes ext v) (values_for p v) ≡ values_for (and_this ext p) v
carry AbsoluteSendTime p v h = carry-send p v v.abs_send_time refl
carry AbsoluteCaptureTime p v h = carry-capture p v v.abs_capture_time refl h.abs_capture_time
carry AudioLevel p v h = carry-audio p v v.audio_level v.voice_activity refl refl
carry VideoOrientation p v h = carry-orientation p v v.video_orientation refl h.video_orientation
carry TransportSequenceNumber p v h = carry-transport p v v.transport_cc refl h.transport_cc
carry PlayoutDelay p v h = carry-delay p v v.play_delay_min v.play_delay_max refl refl
carry VideoContentType p v h = carry-content p v v.video_content_type refl
carry RtpStreamId p v h = carry-rid p v v.rid refl h.rid
carry RepairedRtpStreamId p v h = carry-repair p v v.rid_repair refl h.rid_repair
carry RtpMid p v h = carry-mid p v v.mid refl h.mid
carry (UnknownUri uri) p v h = refl

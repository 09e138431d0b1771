use Rattle.std.specs.Prelude.{ℕ, zero, suc, ◌+◌, ◌*◌, ◌/◌, ◌%◌, ◌<◌, ◌^◌, Bool, true, false, ◌==◌, ◌&&◌, nat_lt, ℤ}
use Rattle.std.specs.Prelude.{pos, negsuc, if◌then◌else◌, List, [], ◌∷◌, ◌++◌, length, drop, slice_index, Option}
use Rattle.std.specs.Prelude.{Some, None, IfSome}
use Rattle.std.specs.Int.{w16, w64, to_be_bytes, from_be_bytes, cast_signed, cast_unsigned}
use Rattle.std.specs.Prelude.{FitsSigned}
use Rattle.std.specs.Str.Lossy.{utf8_valid_len}
use Rattle.rtp_wire.specs.Name.{name_of, IsName}
use Rattle.rtp_wire.specs.declared.extension.Extension.{Extension}
use Rattle.rtp_wire.specs.declared.extension.Extension.TheVariants.{AbsoluteSendTime, AbsoluteCaptureTime}
use Rattle.rtp_wire.specs.declared.extension.Extension.TheVariants.{AudioLevel, VideoOrientation}
use Rattle.rtp_wire.specs.declared.extension.Extension.TheVariants.{TransportSequenceNumber, PlayoutDelay}
use Rattle.rtp_wire.specs.declared.extension.Extension.TheVariants.{VideoContentType, RtpStreamId}
use Rattle.rtp_wire.specs.declared.extension.Extension.TheVariants.{RepairedRtpStreamId, RtpMid}
use Rattle.rtp_wire.specs.declared.extension.Extension.TheVariants.{UnknownUri}
use Rattle.rtp_wire.specs.declared.values.ExtensionValues.{ExtensionValues}
use Rattle.rtp_wire.specs.declared.values.AbsCaptureTime.{AbsCaptureTime}

abbrev pub bit : Bool → ℕ
bit false = 0
bit true = 1

-- ---- the bytes of a value; None if it is absent or out of range

-- The negated audio level (0 to 127) of a level of -127 to 0 (RFC 6464 3).
abbrev pub level_number : ℤ → Option ℕ
level_number (pos n) = if n == 0 then Some 0 else None
level_number (negsuc n) = if nat_lt n 127 then Some (n + 1) else None

abbrev pub level_byte : Option ℕ → Bool → Option (List ℕ)
level_byte None voice = None
level_byte (Some n) voice = Some ((128 * bit voice + n) ∷ [])

abbrev pub level_bytes : Option ℤ → Option Bool → Option (List ℕ)
level_bytes None voice = None
level_bytes (Some level) None = None
level_bytes (Some level) (Some voice) = level_byte (level_number level) voice

-- Microseconds, modulo 64 seconds, in units of 2^-18 seconds.
abbrev pub send_number : ℕ → ℕ
send_number time = time % 64000000 * 262144 / 1000000

abbrev pub send_bytes : Option ℕ → Option (List ℕ)
send_bytes None = None
send_bytes (Some time) = Some (send_number time / 65536 ∷ send_number time / 256 % 256 ∷ send_number time % 256 ∷ [])

abbrev pub transport_bytes : Option ℕ → Option (List ℕ)
transport_bytes None = None
transport_bytes (Some n) = Some (to_be_bytes w16 n)

abbrev pub byte_bytes : Option ℕ → Option (List ℕ)
byte_bytes None = None
byte_bytes (Some n) = Some (n ∷ [])

-- Two 12-bit delays.
abbrev pub delay_text : Bool → ℕ → ℕ → Option (List ℕ)
delay_text false least most = None
delay_text true least most = Some (least / 16 ∷ (least % 16 * 16 + most / 256) ∷ most % 256 ∷ [])

abbrev pub delay_bytes : Option ℕ → Option ℕ → Option (List ℕ)
delay_bytes None most = None
delay_bytes (Some least) None = None
delay_bytes (Some least) (Some most) = delay_text (nat_lt least 4096 && nat_lt most 4096) least most

abbrev pub offset_bytes : Option ℤ → List ℕ
offset_bytes None = []
offset_bytes (Some offset) = to_be_bytes w64 (cast_unsigned w64 offset)

abbrev pub capture_bytes : Option AbsCaptureTime → Option (List ℕ)
capture_bytes None = None
capture_bytes (Some time) = Some (to_be_bytes w64 time.capture_time ++ offset_bytes time.clock_offset)

-- The bytes that an extension has for these values, if any.
abbrev pub value_bytes : Extension → ExtensionValues → Option (List ℕ)
value_bytes AbsoluteSendTime v = send_bytes v.abs_send_time
value_bytes AbsoluteCaptureTime v = capture_bytes v.abs_capture_time
value_bytes AudioLevel v = level_bytes v.audio_level v.voice_activity
value_bytes VideoOrientation v = byte_bytes v.video_orientation
value_bytes TransportSequenceNumber v = transport_bytes v.transport_cc
value_bytes PlayoutDelay v = delay_bytes v.play_delay_min v.play_delay_max
value_bytes VideoContentType v = byte_bytes v.video_content_type
value_bytes RtpStreamId v = v.rid
value_bytes RepairedRtpStreamId v = v.rid_repair
value_bytes RtpMid v = v.mid
value_bytes (UnknownUri uri) v = None

-- ---- values of bytes

-- The bytes are valid UTF-8.
abbrev pub is_text : List ℕ → Bool
is_text bytes = utf8_valid_len bytes == length bytes

abbrev pub minus : ℕ → ℤ
minus zero = pos 0
minus (suc n) = negsuc n

abbrev pub sent_time : ℕ → ℕ
sent_time number = number * 1000000 / 262144

-- The values updated with an extension's bytes; bytes of a wrong length are ignored.
abbrev pub with_value : Extension → List ℕ → ExtensionValues → ExtensionValues
with_value AbsoluteSendTime bytes v =
    if length bytes == 3 then record v {
      abs_send_time =
          Some (sent_time (slice_index bytes 0 * 65536 + slice_index bytes 1 * 256 + slice_index bytes 2));
    } else v
with_value AbsoluteCaptureTime bytes v =
    if length bytes == 8 then record v {
      abs_capture_time =
          Some (record { capture_time = from_be_bytes w64 bytes; clock_offset = None });
    }
    else if length bytes == 16 then record v {
      abs_capture_time = Some (record {
        capture_time = from_be_bytes w64 bytes;
        clock_offset =
            Some (cast_signed w64 (from_be_bytes w64 (drop 8 bytes)));
      });
    }
    else v
with_value AudioLevel bytes v =
    if length bytes == 1 then record v {
      audio_level = Some (minus (slice_index bytes 0 % 128));
      voice_activity =
          Some (slice_index bytes 0 / 128 == 1);
    } else v
with_value VideoOrientation bytes v =
    if length bytes == 1 then record v { video_orientation = Some (slice_index bytes 0 % 4) } else v
with_value TransportSequenceNumber bytes v =
    if length bytes == 2 then record v { transport_cc = Some (from_be_bytes w16 bytes) } else v
with_value PlayoutDelay bytes v =
    if length bytes == 3 then record v {
      play_delay_min = Some (slice_index bytes 0 * 16 + slice_index bytes 1 / 16);
      play_delay_max = Some (slice_index bytes 1 % 16 * 256 + slice_index bytes 2);
    } else v
with_value VideoContentType bytes v =
    if length bytes == 1 then record v { video_content_type = Some (slice_index bytes 0) } else v
with_value RtpStreamId bytes v = if is_text bytes then record v { rid = Some (name_of 8 bytes) } else v
with_value RepairedRtpStreamId bytes v = if is_text bytes then record v { rid_repair = Some (name_of 8 bytes) } else v
with_value RtpMid bytes v = if is_text bytes then record v { mid = Some (name_of 16 bytes) } else v
with_value (UnknownUri uri) bytes v = v

-- ---- the values that remain once they are written as bytes

-- Both parts are present, and the level is in range.
abbrev pub is_number : Option ℕ → Bool
is_number None = false
is_number (Some n) = true

abbrev pub has_level : Option ℤ → Option Bool → Bool
has_level None voice = false
has_level (Some level) None = false
has_level (Some level) (Some voice) = is_number (level_number level)

abbrev pub level_image : Option ℤ → Option Bool → Option ℤ
level_image level voice = if has_level level voice then level else None

abbrev pub voice_image : Option ℤ → Option Bool → Option Bool
voice_image level voice = if has_level level voice then voice else None

-- The send time rounded down to units of 2^-18 seconds, modulo 64 seconds.
abbrev pub send_image : Option ℕ → Option ℕ
send_image None = None
send_image (Some time) = Some (sent_time (send_number time))

abbrev pub has_delay : Option ℕ → Option ℕ → Bool
has_delay None most = false
has_delay (Some least) None = false
has_delay (Some least) (Some most) = nat_lt least 4096 && nat_lt most 4096

abbrev pub least_image : Option ℕ → Option ℕ → Option ℕ
least_image least most = if has_delay least most then least else None

abbrev pub most_image : Option ℕ → Option ℕ → Option ℕ
most_image least most = if has_delay least most then most else None

-- The values of the extensions that a test selects, as they are once written as bytes; the others are absent.
abbrev pub values_for : (Extension → Bool) → ExtensionValues → ExtensionValues
values_for picks v = record {
  audio_level = if picks AudioLevel then level_image v.audio_level v.voice_activity else None;
  voice_activity = if picks AudioLevel then voice_image v.audio_level v.voice_activity else None;
  abs_send_time = if picks AbsoluteSendTime then send_image v.abs_send_time else None;
  transport_cc = if picks TransportSequenceNumber then v.transport_cc else None;
  mid = if picks RtpMid then v.mid else None;
  rid = if picks RtpStreamId then v.rid else None;
  rid_repair = if picks RepairedRtpStreamId then v.rid_repair else None;
  video_orientation = if picks VideoOrientation then v.video_orientation else None;
  play_delay_min = if picks PlayoutDelay then least_image v.play_delay_min v.play_delay_max else None;
  play_delay_max = if picks PlayoutDelay then most_image v.play_delay_min v.play_delay_max else None;
  video_content_type = if picks VideoContentType then v.video_content_type else None;
  abs_capture_time = if picks AbsoluteCaptureTime then v.abs_capture_time else None;
}

-- A capture time whose parts are in range.
pub record IsCapture (time : AbsCaptureTime) : Type 0 where
  pub capture_time : time.capture_time < 2 ^ 64
  pub clock_offset : IfSome time.clock_offset (λ offset. FitsSigned w64 offset)

-- Values in range.
pub record AreValues (v : ExtensionValues) : Type 0 where
  pub transport_cc : IfSome v.transport_cc (λ n. n < 2 ^ 16)
  pub mid : IfSome v.mid (λ text. IsName 16 text)
  pub rid : IfSome v.rid (λ text. IsName 8 text)
  pub rid_repair : IfSome v.rid_repair (λ text. IsName 8 text)
  pub video_orientation : IfSome v.video_orientation (λ n. n < 4)
  pub video_content_type : IfSome v.video_content_type (λ n. n < 256)
  pub abs_capture_time : IfSome v.abs_capture_time IsCapture

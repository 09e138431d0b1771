-- The values of header extensions, as C programs give and take them.
use Rattle.std.specs.Prelude.{ℕ, ◌%◌, Bool, true, false, List, Option, Some, None, is_some, pos, unwrap_or}
use Rattle.rtp_wire.specs.declared.values.AbsCaptureTime.{AbsCaptureTime}
use Rattle.rtp_wire.specs.declared.values.ExtensionValues.{ExtensionValues}
use Rattle.jilqamur.specs.declared.values.WireValues.{WireValues}

-- A value that is given, or none.
abbrev pub if_given : {A : Type 0} → Bool → A → Option A
if_given false value = None
if_given true value = Some value

abbrev pub capture_of : WireValues → AbsCaptureTime
capture_of w = record {
  capture_time = w.capture_time;
  clock_offset = if_given w.has_clock_offset w.clock_offset;
}

-- The given values, with this mid and no stream ids (RID).
abbrev pub values_given : WireValues → Option (List ℕ) → ExtensionValues
values_given w mid = record {
  audio_level = if_given w.has_audio_level w.audio_level;
  voice_activity = if_given w.has_voice_activity w.voice_activity;
  abs_send_time = if_given w.has_abs_send_time w.abs_send_time;
  transport_cc = if_given w.has_transport_cc w.transport_cc;
  mid = mid;
  rid = None;
  rid_repair = None;
  video_orientation = if_given w.has_video_orientation (w.video_orientation % 4);
  play_delay_min = if_given w.has_play_delay_min w.play_delay_min;
  play_delay_max = if_given w.has_play_delay_max w.play_delay_max;
  video_content_type = if_given w.has_video_content_type w.video_content_type;
  abs_capture_time = if_given w.has_capture_time (capture_of w);
}

-- No capture time.
abbrev pub no_capture : AbsCaptureTime
no_capture = record { capture_time = 0; clock_offset = None }

-- What is told of the values: which are present, and their contents (0 or false if absent).
abbrev pub values_told : ExtensionValues → WireValues
values_told v = record {
  has_audio_level = is_some v.audio_level;
  audio_level = unwrap_or v.audio_level (pos 0);
  has_voice_activity = is_some v.voice_activity;
  voice_activity = unwrap_or v.voice_activity false;
  has_abs_send_time = is_some v.abs_send_time;
  abs_send_time = unwrap_or v.abs_send_time 0;
  has_transport_cc = is_some v.transport_cc;
  transport_cc = unwrap_or v.transport_cc 0;
  has_video_orientation = is_some v.video_orientation;
  video_orientation = unwrap_or v.video_orientation 0;
  has_play_delay_min = is_some v.play_delay_min;
  play_delay_min = unwrap_or v.play_delay_min 0;
  has_play_delay_max = is_some v.play_delay_max;
  play_delay_max = unwrap_or v.play_delay_max 0;
  has_video_content_type = is_some v.video_content_type;
  video_content_type = unwrap_or v.video_content_type 0;
  has_capture_time = is_some v.abs_capture_time;
  capture_time = (unwrap_or v.abs_capture_time no_capture).capture_time;
  has_clock_offset = is_some (unwrap_or v.abs_capture_time no_capture).clock_offset;
  clock_offset = unwrap_or (unwrap_or v.abs_capture_time no_capture).clock_offset (pos 0);
}

-- Units, and what is told of them.
use Rattle.std.specs.Prelude.{ℕ, ◌-◌, Bool, false, List, length, Option, Some, None, is_some, unwrap_or}
use Rattle.payload_core_base.specs.declared.extra.CodecExtra.{CodecExtra}
use Rattle.payload_core_base.specs.declared.extra.CodecExtra.TheVariants as extra
use Rattle.payload_core_base.specs.declared.telephone_event.TelephoneEvent.{TelephoneEvent}
use Rattle.payload_core_buffer.specs.Frames.{meta_at}
use Rattle.payload_core_buffer.specs.declared.held.RtpMeta.{RtpMeta}
use Rattle.jilqamur.specs.declared.payload_unit.WireUnit.{WireUnit}

-- A unit: its bytes, the numbers of its first and last packet, its RTP time, and what its codec tells of it.
pub record UnitState : Type 0 where
  pub bytes : List ℕ
  pub first : ℕ
  pub last : ℕ
  pub time : ℕ
  pub extra : CodecExtra

-- The unit of packets with this metadata that gave these bytes and this codec data.
abbrev pub unit_from : List RtpMeta → List ℕ → CodecExtra → UnitState
unit_from metas bytes extra = record {
  bytes = bytes;
  first = (meta_at metas 0).seq_no;
  last = (meta_at metas (length metas - 1)).seq_no;
  time = (meta_at metas 0).time;
  extra = extra;
}

-- Whether the codec says that it is a keyframe.
abbrev pub keyframe_told : CodecExtra → Bool
keyframe_told (extra.Vp8 e) = e.is_keyframe
keyframe_told (extra.H264 e) = e.is_keyframe
keyframe_told (extra.Av1 e) = e.is_keyframe
keyframe_told (extra.H265 e) = e.is_keyframe
keyframe_told (extra.H266 e) = e.is_keyframe
keyframe_told e = false

-- The picture id, TL0PICIDX, and the first telephone event, if present.
abbrev pub picture_id_told : CodecExtra → Option ℕ
picture_id_told (extra.Vp8 e) = e.picture_id
picture_id_told (extra.Vp9 e) = e.picture_id
picture_id_told e = None

abbrev pub base_layer_told : CodecExtra → Option ℕ
base_layer_told (extra.Vp8 e) = e.tl0_pic_idx
base_layer_told e = None

abbrev pub event_told : CodecExtra → Option TelephoneEvent
event_told (extra.Tele e) = Some e
event_told e = None

abbrev pub no_event : TelephoneEvent
no_event = record { event = 0; end = false; volume = 0; duration = 0 }

-- What is told of a unit with these numbers, this timestamp and this codec data.
abbrev pub told_by : ℕ → ℕ → ℕ → CodecExtra → WireUnit
told_by first last time e = record {
  first = first;
  last = last;
  time = time;
  is_keyframe = keyframe_told e;
  has_picture_id = is_some (picture_id_told e);
  picture_id = unwrap_or (picture_id_told e) 0;
  has_base_layer = is_some (base_layer_told e);
  base_layer = unwrap_or (base_layer_told e) 0;
  has_event = is_some (event_told e);
  event = (unwrap_or (event_told e) no_event).event;
  event_end = (unwrap_or (event_told e) no_event).end;
  event_volume = (unwrap_or (event_told e) no_event).volume;
  event_duration = (unwrap_or (event_told e) no_event).duration;
}

abbrev pub told_of : UnitState → WireUnit
told_of u = told_by u.first u.last u.time u.extra

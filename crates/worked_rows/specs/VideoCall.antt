-- A frame of VP8 in two packets, and the stream that sends it.
use Rattle.std.specs.Prelude.{◌≡◌, ◌<◌, ◌≤◌, Bool, true, false, length, Option, None, Some}
use Rattle.media_types.specs.declared.codec.Codec.TheVariants.{Vp8}
use Rattle.rtp_wire.specs.Values.{absent}
use Rattle.sdp_formats_rows.specs.Rows.{Row}
use Rattle.rtp_media_streams.specs.Sending.{Sample, Sending, packet_limit}
use Rattle.rtp_media_ends.specs.declared.StreamParams.{StreamParams}
use Rattle.rtp_media_runs.specs.declared.schedule.Played.{Played}
use Rattle.rtp_media_runs.specs.declared.schedule.Played.TheVariants.{Received}

abbrev pub IsVp8 : Row → Type 0
IsVp8 row = row.spec.codec ≡ Vp8

-- A frame that takes two packets of at most three bytes, each after a payload descriptor of one byte (RFC 7741 4.2),
-- without header extension values.
pub record IsTwoPacketFrame (x : Sample) : Type 0 where
  pub some : 2 < length x.bytes
  pub fits : length x.bytes ≤ 4
  pub values : x.values ≡ absent

-- Packets of at most three bytes, without picture ids.
abbrev pub frame_params : StreamParams
frame_params = record {
  first = 0;
  mtu = 3;
  limit = 1500;
  red = None;
  picture_id = None;
  for_browsers = false;
}

-- A stream of VP8 with these parameters that has sent nothing.
pub record SendsFrames (s : Sending) : Type 0 where
  pub codec : s.row.codec ≡ Vp8
  pub no_id : s.has_id ≡ false
  pub limit : packet_limit s ≡ 3
  pub first : s.next ≡ 0

-- The event's answer is the verdict on bytes that arrived.
abbrev pub is_received : Option Played → Bool
is_received (Some (Received verdict)) = true
is_received _ = false

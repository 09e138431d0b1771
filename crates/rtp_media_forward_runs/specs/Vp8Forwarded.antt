-- VP8 in a room: a packet is the sample after a payload descriptor with S, and has the marker (RFC 7741 4.2).
use Rattle.std.specs.Prelude.{◌≡◌, ◌+◌, ◌<◌, ◌≤◌, true, [], ◌∷◌, length, None}
use Rattle.media_types.specs.declared.codec.Codec.TheVariants.{Vp8}
use Rattle.rtp_wire.specs.Carried.{AreValues}
use Rattle.rtp_media_streams.specs.Sending.{Sample}
use Rattle.rtp_media_runs.specs.Hops.{Carries, Hop, limit_over, row_over}
use Rattle.rtp_media_forward_runs.specs.Rooms.{Form, IsRoomOf, Room}

abbrev pub vp8_form : Form
vp8_form = record { front = 16 ∷ []; marker = true }

-- A VP8 stream without picture ids that may be opened, and whose numbers start at 0.
pub record CarriesVp8 (h : Hop) : Type 0 where
  pub opened : Carries h []
  pub vp8 : (row_over h).codec ≡ Vp8
  pub no_id : h.params.picture_id ≡ None
  pub first : h.params.first ≡ 0

-- A frame that fits one packet.
pub record FitsAfterDescriptor (h : Hop) (x : Sample) : Type 0 where
  pub some : 0 < length x.bytes
  pub fits : length x.bytes + 1 ≤ limit_over h
  pub values : AreValues x.values

abbrev pub IsVp8Room : Room → Type 0
IsVp8Room = IsRoomOf vp8_form CarriesVp8 FitsAfterDescriptor

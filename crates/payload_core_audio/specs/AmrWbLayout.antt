-- The layout of an AMR-WB packet as frames (RFC 4867 4.3 and 4.4, without CRCs, interleaving and robust sorting): the
-- mode request, a table of contents with an entry for each frame, then each frame's speech in the order of the entries.
use Rattle.std.specs.Prelude.{◌≡◌, ◌↔◌, ℕ, ◌+◌, ◌*◌, ◌/◌, ◌<◌, ◌≤◌, Bool, List, ◌∷◌, length, take, nat_lt, slice_get}
use Rattle.std.specs.Prelude.{flat_map, sum_by, Some, if◌then◌else◌}
use Rattle.payload_core_audio.specs.AmrWb.{bit_of, entry_place, field_size, frames_of, header_at, speech_bits}
use Rattle.payload_core_audio.specs.AmrWb.{speech_of}

-- A frame: its entry as a byte, its number of speech bits, and these bits padded to whole bytes.
pub record Frame : Type 0 where
  pub header : ℕ
  pub size : ℕ
  pub speech : List ℕ

-- How many bits the speech field of a frame takes in a packet, and those of several.
abbrev pub field_bits : Bool → Frame → ℕ
field_bits octet_align frame = field_size octet_align frame.size

abbrev pub fields_bits : Bool → List Frame → ℕ
fields_bits octet_align frames = sum_by (field_bits octet_align) frames

-- The speech of frame k follows the table of contents and the speech of the frames before it.
abbrev pub speech_place : Bool → List Frame → ℕ → ℕ
speech_place octet_align frames k = entry_place octet_align (length frames) + fields_bits octet_align (take k frames)

-- The frame's entry is at one bit offset of the packet; its speech, with as many bits as its frame type has, is at
-- another.
pub record IsFrameAt (packet : List ℕ) (entry place : ℕ) (frame : Frame) : Type 0 where
  pub header : frame.header ≡ header_at packet entry
  pub size : speech_bits (frame.header / 8) ≡ Some frame.size
  pub speech : frame.speech ≡ speech_of packet place frame.size

-- A packet is laid out as one or more frames: an entry's F bit is 1 if another entry follows and 0 at the last one, and
-- the last frame's speech ends within the packet.
pub record IsLaidOut (octet_align : Bool) (packet : List ℕ) (frames : List Frame) : Type 0 where
  pub nonempty : 0 < length frames
  pub follows : (k : ℕ) → k < length frames
      → bit_of packet (entry_place octet_align k) ≡ (if nat_lt (k + 1) (length frames) then 1 else 0)
  pub each : (k : ℕ) (frame : Frame) → slice_get frames k ≡ Some frame
      → IsFrameAt packet (entry_place octet_align k) (speech_place octet_align frames k) frame
  pub within : entry_place octet_align (length frames) + fields_bits octet_align frames ≤ 8 * length packet

-- The bytes a frame is handed out as.
abbrev pub frame_bytes : Frame → List ℕ
frame_bytes frame = frame.header ∷ frame.speech

-- A packet gives the bytes of the frames that it is laid out as, in order; a packet with no such layout gives nothing.
abbrev pub PacketsAreLaidOut : Type 0
PacketsAreLaidOut = (octet_align : Bool) (packet bytes : List ℕ) → (frames_of octet_align packet ≡ Some bytes)
    ↔ ((frames : List Frame) × IsLaidOut octet_align packet frames × (bytes ≡ flat_map frame_bytes frames))

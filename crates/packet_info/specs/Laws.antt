-- A packet alone says what the payload formats say.
use Rattle.std.specs.Prelude.{◌≡◌, ℕ, Bool, false, List, IfOk}
use Rattle.std.specs.Option.{option_map}
use Rattle.payload_core_base.specs.Format.{Fragment}
use Rattle.payload_core_base.specs.declared.extra.CodecExtra.{CodecExtra}
use Rattle.payload_core_base.specs.declared.extra.CodecExtra.TheVariants as extras
use Rattle.payload_core_av1.specs.Leb128.{Sized, size_within}
use Rattle.h26x_payload.specs.Codings.{Settings, coding_of}
use Rattle.media_types.specs.declared.codec.Codec.{Codec}
use Rattle.media_types.specs.declared.codec.Codec.TheVariants.{Vp9}
use Rattle.packet_info.specs.Layers.{behind_size}
use Rattle.packet_info.specs.Packets.{is_head, is_tail, shows_key_frame}

-- Heads and tails are those of the format by which a receiver puts frames together, whatever was negotiated.
abbrev pub FollowsFormats : Type 0
FollowsFormats = (s : Settings) (has_id marker : Bool) (codec : Codec) (packet : List ℕ)
    → ((coding_of s has_id codec).format.head packet ≡ is_head codec packet)
    × ((coding_of s has_id codec).format.tail marker packet ≡ is_tail codec marker)

-- Whether the unit is a keyframe, as a receiver says it.
abbrev pub is_keyframe : CodecExtra → Bool
is_keyframe (extras.Vp8 e) = e.is_keyframe
is_keyframe (extras.Av1 e) = e.is_keyframe
is_keyframe (extras.H264 e) = e.is_keyframe
is_keyframe (extras.H265 e) = e.is_keyframe
is_keyframe (extras.H266 e) = e.is_keyframe
is_keyframe _ = false

abbrev pub without_numbers : Settings → Settings
without_numbers s = record s { donl = false }

-- If a receiver reads a packet first of a unit, the unit is a keyframe so far exactly if the packet shows one. (VP9's
-- units don't say it.)
abbrev pub FollowsUnits : Type 0
FollowsUnits = (s : Settings) (has_id : Bool) (codec : Codec) (fragment : Fragment) (packet : List ℕ)
    → (codec ≡ Vp9 → ⊥) → IfOk ((coding_of (without_numbers s) has_id codec).format.read fragment extras.None packet)
    (λ r. is_keyframe r.extra ≡ shows_key_frame codec packet)

-- The bytes after a size are those that AV1's sizes leave.
abbrev pub FollowsSizes : Type 0
FollowsSizes = (bytes : List ℕ) → option_map (λ (s : Sized). s.rest) (size_within 8 bytes) ≡ behind_size 8 bytes

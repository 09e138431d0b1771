-- The VP8 payload descriptor (RFC 7741 4.2). A byte past the end of the payload counts as 0.
use Rattle.std.specs.Prelude.{ℕ, ◌+◌, ◌*◌, ◌%◌, ◌==◌, ◌&&◌, ◌||◌, Bool, true, false, List, [], ◌∷◌, drop}
use Rattle.std.specs.Prelude.{slice_index, Option, Some, None, Result, Ok, Err, if◌then◌else◌}
use Rattle.payload_core_base.specs.Bytes.{has_bit}
use Rattle.payload_core_vpx.specs.declared.vp8_descriptor.Shape.{Shape}
use Rattle.payload_core_vpx.specs.declared.vp8_descriptor.Vp8Descriptor.{Vp8Descriptor}
use Rattle.payload_core_vpx.specs.declared.vp8_descriptor.Vp8DescriptorError.{Vp8DescriptorError}
use Rattle.payload_core_vpx.specs.declared.vp8_descriptor.Vp8DescriptorError.TheVariants.{MalformedDescriptor}
use Rattle.payload_core_vpx.specs.declared.vp8_descriptor.Vp8DescriptorError.TheVariants.{ShortPayload}

-- The fields that the X bit, the I, L, T and K flags and the M bit announce. Without X there are no flags.
abbrev pub shape_with : Bool → ℕ → Bool → Shape
shape_with false flags m = record {
  is_extended = false;
  has_picture_id = false;
  is_long = false;
  has_tl0_pic_idx =
      false;
  has_key_byte = false;
  has_key_idx = false;
}
shape_with true flags m = record {
  is_extended = true;
  has_picture_id = has_bit 128 flags;
  is_long = has_bit 128 flags && m;
  has_tl0_pic_idx = has_bit 64 flags;
  has_key_byte = has_bit 32 flags || has_bit 16 flags;
  has_key_idx = has_bit 16 flags;
}

-- X is in the first byte; the second byte holds the flags; M is the top bit of the third, the picture id.
abbrev pub shape_of : List ℕ → Shape
shape_of p = shape_with (has_bit 128 (slice_index p 0)) (slice_index p 1) (has_bit 128 (slice_index p 2))

-- The picture id has a byte, or two with M.
abbrev pub picture_id_size : Shape → ℕ
picture_id_size s = if s.has_picture_id then (if s.is_long then 2 else 1) else 0

-- TL0PICIDX follows the picture id.
abbrev pub tl0_place : Shape → ℕ
tl0_place s = 2 + picture_id_size s

-- TID, Y and KEYIDX share the byte after it.
abbrev pub key_place : Shape → ℕ
key_place s = tl0_place s + (if s.has_tl0_pic_idx then 1 else 0)

-- How many bytes the descriptor has.
abbrev pub layout_size : Shape → ℕ
layout_size s = if s.is_extended then key_place s + (if s.has_key_byte then 1 else 0) else 1

-- A picture id of 15 bits after M, or of 7 bits.
abbrev pub picture_id_in : Shape → List ℕ → Option ℕ
picture_id_in s p =
    if s.has_picture_id then (if s.is_long then Some (slice_index p 2 % 128 * 256 + slice_index p 3)
    else Some (slice_index p 2 % 128))
    else None

abbrev pub tl0_pic_idx_in : Shape → List ℕ → Option ℕ
tl0_pic_idx_in s p = if s.has_tl0_pic_idx then Some (slice_index p (tl0_place s)) else None

-- KEYIDX, the low five bits.
abbrev pub key_idx_in : Shape → List ℕ → Option ℕ
key_idx_in s p = if s.has_key_idx then Some (slice_index p (key_place s) % 32) else None

-- A frame begins if S is set and PID is 0.
abbrev pub begins_frame : ℕ → Bool
begins_frame first = has_bit 16 first && first % 8 == 0

-- What the descriptor tells.
abbrev pub described_in : Shape → List ℕ → Vp8Descriptor
described_in s p = record {
  begins_frame = begins_frame (slice_index p 0);
  shape = s;
  picture_id = picture_id_in s p;
  tl0_pic_idx = tl0_pic_idx_in s p;
  key_idx = key_idx_in s p;
}

-- A descriptor must be followed by at least one byte.
abbrev pub with_frame : Vp8Descriptor → List ℕ → Result Vp8Descriptor Vp8DescriptorError
with_frame d [] = Err MalformedDescriptor
with_frame d (b ∷ bs) = Ok d

abbrev pub parsed_in : Shape → List ℕ → Result Vp8Descriptor Vp8DescriptorError
parsed_in s p = with_frame (described_in s p) (drop (layout_size s) p)

-- The descriptor of a payload.
abbrev pub parsed : List ℕ → Result Vp8Descriptor Vp8DescriptorError
parsed [] = Err ShortPayload
parsed (b ∷ bs) = parsed_in (shape_of (b ∷ bs)) (b ∷ bs)

-- The low bit of a frame's first byte is clear.
abbrev pub begins_keyframe : List ℕ → Bool
begins_keyframe [] = false
begins_keyframe (b ∷ bs) = b % 2 == 0

-- A keyframe begins if a frame begins and the low bit after the descriptor is clear.
abbrev pub starts_keyframe : Vp8Descriptor → List ℕ → Bool
starts_keyframe d p = d.begins_frame && begins_keyframe (drop (layout_size d.shape) p)

-- A payload that is refused begins none.
abbrev pub keyframe_in : Result Vp8Descriptor Vp8DescriptorError → List ℕ → Bool
keyframe_in (Ok d) p = starts_keyframe d p
keyframe_in (Err e) p = false

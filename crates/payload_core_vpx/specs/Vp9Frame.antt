-- What a VP9 frame says of itself (VP9 bitstream specification 6.2 and 7.2).
use Rattle.std.specs.Prelude.{ℕ, ◌/◌, ◌%◌, ◌==◌, ◌&&◌, ◌||◌, Bool, false, List, [], ◌∷◌, if◌then◌else◌}
use Rattle.payload_core_base.specs.Bytes.{has_bit}

-- The uncompressed header: the frame marker (2, in two bits), the profile (two bits, low one first), a reserved bit
-- with profile 3, show_existing_frame, and, if that is clear, frame_type.
abbrev pub has_marker : ℕ → Bool
has_marker byte = byte / 64 == 2

abbrev pub is_profile_3 : ℕ → Bool
is_profile_3 byte = byte / 16 % 4 == 3

-- A frame is predicted if it shows an existing frame or isn't a key frame.
abbrev pub is_not_key : ℕ → Bool
is_not_key byte =
    if is_profile_3 byte then has_bit 4 byte || has_bit 2 byte else has_bit 8 byte || has_bit 4 byte

abbrev pub is_predicted : List ℕ → Bool
is_predicted [] = false
is_predicted (byte ∷ rest) = has_marker byte && is_not_key byte

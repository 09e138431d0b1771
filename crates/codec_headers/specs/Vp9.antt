-- Key frames of VP9 (VP9 bitstream specification 6.2).
use Rattle.std.specs.Prelude.{ℕ, ◌+◌, ◌*◌, ◌%◌, ◌==◌, not, nat_le, List, Option, if◌then◌else◌}
use Rattle.codec_headers.specs.Bits.{Read, ◌>>=◌, bits, done, only, pass, u, value_of, when}
use Rattle.codec_headers.specs.Picture.{size_of}
use Rattle.codec_headers.specs.declared.picture.PictureSize.{PictureSize}

-- The profile's low bit and its high bit; a reserved bit follows in profile 3.
unfoldable pub profile_of : List ℕ → Option (Read ℕ)
profile_of = do
  low ← u 1
  high ← u 1
  _ ← when (2 * high + low == 3) (pass 1)
  done (2 * high + low)

-- color_config (6.2.2): ten_or_twelve_bit in profiles 2 and 3; color_space, which is 7 for RGB; color_range, but not
-- for RGB. Profiles 1 and 3 have a reserved bit, and before it subsampling_x and subsampling_y for other spaces.
unfoldable pub color_config : ℕ → List ℕ → Option (Read (Unit {0}))
color_config profile = do
  _ ← when (nat_le 2 profile) (pass 1)
  space ← u 3
  _ ← when (not (space == 7)) (pass 1)
  if profile % 2 == 0 then done tt else pass (if space == 7 then 1 else 3)

-- frame_size (6.2.3): frame_width_minus_1 and frame_height_minus_1.
unfoldable pub frame_size : List ℕ → Option (Read PictureSize)
frame_size = do
  width ← u 16
  height ← u 16
  done (size_of (width + 1) (height + 1))

-- frame_marker; the profile; show_existing_frame and frame_type, both 0 for a key frame; show_frame and
-- error_resilient_mode; frame_sync_code; the colours; the size.
unfoldable pub key_frame : List ℕ → Option (Read PictureSize)
key_frame = do
  _ ← only 2 2
  profile ← profile_of
  _ ← only 2 0
  _ ← pass 2
  _ ← only 24 0x498342
  _ ← color_config profile
  frame_size

abbrev pub vp9_size : List ℕ → Option PictureSize
vp9_size frame = value_of (key_frame (bits frame))

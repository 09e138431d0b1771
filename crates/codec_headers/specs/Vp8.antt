-- Key frames of VP8 (RFC 6386 9.1).
use Rattle.std.specs.Prelude.{ℕ, ◌+◌, ◌*◌, ◌%◌, ◌==◌, ◌&&◌, Bool, nat_lt, List, length, slice_index, Option, None, Some}
use Rattle.std.specs.Prelude.{if◌then◌else◌}
use Rattle.codec_headers.specs.Picture.{size_of}
use Rattle.codec_headers.specs.declared.picture.PictureSize.{PictureSize}

-- A frame tag of three bytes, whose first bit is 0 in a key frame, and a start code.
abbrev pub is_key : List ℕ → Bool
is_key frame = (slice_index frame 0 % 2 == 0) && (slice_index frame 3 == 0x9d) && (slice_index frame 4 == 1)
    && (slice_index frame 5 == 0x2a)

-- Width and height, 14 bits each, of two bytes with the less significant one first; two bits of scale are above each.
abbrev pub fourteen_bits : List ℕ → ℕ → ℕ
fourteen_bits frame at = slice_index frame at + 256 * (slice_index frame (at + 1) % 64)

unfoldable pub vp8_size : List ℕ → Option PictureSize
vp8_size frame =
    if nat_lt (length frame) 10 then None
    else if is_key frame then Some (size_of (fourteen_bits frame 6) (fourteen_bits frame 8)) else None

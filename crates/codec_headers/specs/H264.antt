-- Sequence parameter sets of H.264 (7.3.2.1.1).
use Rattle.std.specs.Prelude.{ℕ, zero, suc, ◌+◌, ◌-◌, ◌*◌, ◌/◌, ◌%◌, ◌==◌, ◌||◌, Bool, nat_lt, List, Option, None, Some}
use Rattle.std.specs.Prelude.{if◌then◌else◌}
use Rattle.codec_headers.specs.Bits.{Read, ◌>>=◌, bits, done, flag, gives, pass, pass_code, times, u, ue, value_of}
use Rattle.codec_headers.specs.Bits.{when}
use Rattle.codec_headers.specs.Nal.{payload}
use Rattle.codec_headers.specs.Picture.{cropping, shown, sub_height, sub_width}
use Rattle.codec_headers.specs.declared.picture.PictureSize.{PictureSize}

-- A scaling factor after another (7.3.2.1.1.1): (lastScale + delta_scale + 256) % 256. The code k of delta_scale is
-- se(v): (k + 1) / 2 if k is odd, and -(k / 2) if it is even (9.1.1); delta_scale is from -128 to 127.
unfoldable pub scale_after : ℕ → ℕ → Option ℕ
scale_after last k =
    if nat_lt 256 k || (k == 255) then None
    else if k % 2 == 1 then Some ((last + (k + 1) / 2 + 256) % 256)
    else Some ((last + 256 - k / 2) % 256)

unfoldable pub scale_read : ℕ → List ℕ → Option (Read ℕ)
scale_read last = do
  k ← ue
  gives (scale_after last k)

-- At most n factors after another: once one is 0, those that follow are not sent.
unfoldable pub scales : ℕ → ℕ → List ℕ → Option (Read (Unit {0}))
scales zero last = done tt
scales (suc n) last = scale_read last >>= λ scale. if scale == 0 then done tt else scales n scale

-- A list of n factors, if it is sent; the first comes after 8.
unfoldable pub scaling_list : ℕ → List ℕ → Option (Read (Unit {0}))
scaling_list n = do
  is_sent ← flag
  when is_sent (scales n 8)

-- Six lists of 16 factors, and two of 64, or six for 4:4:4.
unfoldable pub scaling_matrix : ℕ → List ℕ → Option (Read (Unit {0}))
scaling_matrix format = do
  is_sent ← flag
  when is_sent (times 6 (scaling_list 16) >>= λ _. times (if format == 3 then 6 else 2) (scaling_list 64))

-- The profiles whose sets say a chroma format (profile_idc).
abbrev pub has_format : ℕ → Bool
has_format p = (p == 100) || (p == 110) || (p == 122) || (p == 244) || (p == 44) || (p == 83) || (p == 86) || (p == 118)
    || (p == 128) || (p == 138) || (p == 139) || (p == 134) || (p == 135)

-- chroma_format_idc, separate_colour_plane_flag, bit_depth_luma_minus8, bit_depth_chroma_minus8,
-- qpprime_y_zero_transform_bypass_flag and the scaling matrix.
unfoldable pub format_of_high : List ℕ → Option (Read ℕ)
format_of_high = do
  format ← ue
  _ ← when (format == 3) (pass 1)
  _ ← pass_code
  _ ← pass_code
  _ ← pass 1
  _ ← scaling_matrix format
  done format

-- Other profiles have 4:2:0.
unfoldable pub chroma_format : ℕ → List ℕ → Option (Read ℕ)
chroma_format profile = if has_format profile then format_of_high else done 1

-- The unit's header, profile_idc, constraint flags and level_idc, seq_parameter_set_id, and the chroma format.
unfoldable pub front : List ℕ → Option (Read ℕ)
front = do
  _ ← pass 8
  profile ← u 8
  _ ← pass 16
  _ ← pass_code
  chroma_format profile

-- The order of pictures: pic_order_cnt_type, and what follows it for types 0 and 1. A cycle has at most 255 pictures.
unfoldable pub cycle : List ℕ → Option (Read (Unit {0}))
cycle = do
  _ ← pass 1
  _ ← times 2 pass_code
  count ← ue
  if nat_lt 255 count then gives None else times count pass_code

abbrev pub order_of : ℕ → List ℕ → Option (Read (Unit {0}))
order_of type = if type == 0 then pass_code else if type == 1 then cycle else done tt

unfoldable pub order : List ℕ → Option (Read (Unit {0}))
order = do
  type ← ue
  order_of type

-- 2 - frame_mbs_only_flag: rows are counted in fields if frames may have them, and mb_adaptive_frame_field_flag
-- follows.
unfoldable pub fields : List ℕ → Option (Read ℕ)
fields = do
  is_frames ← flag
  if is_frames then done 1 else (pass 1 >>= λ _. done 2)

-- The luma samples of macroblocks, 16 by 16, without those that are cut off: CropUnitX and CropUnitY samples for each
-- step of an offset (7.4.2.1.1).
abbrev pub shown_of : ℕ → ℕ → ℕ → ℕ → ℕ × ℕ → Option PictureSize
shown_of format columns rows fields cut = shown (16 * (columns + 1)) (sub_width format * cut.0)
    (16 * fields * (rows + 1)) (sub_height format * fields * cut.1)

-- log2_max_frame_num_minus4, the order of pictures, max_num_ref_frames, gaps_in_frame_num_value_allowed_flag,
-- pic_width_in_mbs_minus1, pic_height_in_map_units_minus1, frame_mbs_only_flag, direct_8x8_inference_flag, and the
-- cropping rectangle.
unfoldable pub size_after : ℕ → List ℕ → Option (Read PictureSize)
size_after format = do
  _ ← pass_code
  _ ← order
  _ ← pass_code
  _ ← pass 1
  columns ← ue
  rows ← ue
  fields ← fields
  _ ← pass 1
  cut ← cropping
  gives (shown_of format columns rows fields cut)

-- The size of pictures in a set's payload, and in a set.
unfoldable pub sps : List ℕ → Option PictureSize
sps bs = value_of ((front >>= size_after) bs)

abbrev pub h264_size : List ℕ → Option PictureSize
h264_size unit = sps (bits (payload unit))

-- Sequence headers of AV1 (AV1 bitstream specification 5.5).
use Rattle.std.specs.Prelude.{ℕ, ◌+◌, ◌*◌, ◌==◌, Bool, true, not, nat_le, List, Option, if◌then◌else◌}
use Rattle.codec_headers.specs.Bits.{Read, ◌>>=◌, bits, done, flag, pass, pass_code, times, u, value_of, when}
use Rattle.codec_headers.specs.Picture.{size_of}
use Rattle.codec_headers.specs.Av1Color.{color_config}
use Rattle.codec_headers.specs.declared.picture.PictureSize.{PictureSize}
use Rattle.codec_headers.specs.declared.av1_color.Av1Color.{Av1Color}
use Rattle.codec_headers.specs.declared.av1.Av1Level.{Av1Level}
use Rattle.codec_headers.specs.declared.av1.Av1Sequence.{Av1Sequence}

-- decoder_model_info (5.5.4): buffer_delay_length_minus_1, and 42 bits. How many bits a delay has.
unfoldable pub model : List ℕ → Option (Read ℕ)
model = do
  width ← u 5
  _ ← pass 42
  done (width + 1)

-- timing_info (5.5.3): num_units_in_display_tick and time_scale, equal_picture_interval, and with it
-- num_ticks_per_picture_minus_1, whose code uvlc (4.10.3) has the bits of ue(v). Then decoder_model_info_present_flag.
-- How many bits a delay has, 0 if there are none.
unfoldable pub timing_info : List ℕ → Option (Read ℕ)
timing_info = do
  _ ← pass 64
  is_equal ← flag
  _ ← when is_equal pass_code
  has_model ← flag
  if has_model then model else done 0

unfoldable pub timing : List ℕ → Option (Read ℕ)
timing = do
  has_timing ← flag
  if has_timing then timing_info else done 0

abbrev pub level_of : ℕ → ℕ → Av1Level
level_of level tier = record { level = level; tier = tier }

-- An operating point: operating_point_idc, seq_level_idx, seq_tier for levels above 7, the two delays of its decoder
-- and low_delay_mode_flag if they are said, and the display delay if it is said.
unfoldable pub tier_of : ℕ → List ℕ → Option (Read ℕ)
tier_of level = if nat_le level 7 then done 0 else u 1

unfoldable pub delays : ℕ → List ℕ → Option (Read (Unit {0}))
delays width = if width == 0 then done tt else (flag >>= λ is_there. when is_there (pass (2 * width + 1)))

unfoldable pub display : Bool → List ℕ → Option (Read (Unit {0}))
display has_display = if has_display then (flag >>= λ is_there. when is_there (pass 4)) else done tt

unfoldable pub point : ℕ → Bool → List ℕ → Option (Read Av1Level)
point width has_display = do
  _ ← pass 12
  level ← u 5
  tier ← tier_of level
  _ ← delays width
  _ ← display has_display
  done (level_of level tier)

unfoldable pub pass_point : ℕ → Bool → List ℕ → Option (Read (Unit {0}))
pass_point width has_display = point width has_display >>= λ _. done tt

-- The times, initial_display_delay_present_flag, operating_points_cnt_minus_1, and the points; the first of them.
unfoldable pub points : List ℕ → Option (Read Av1Level)
points = do
  width ← timing
  has_display ← flag
  more ← u 5
  first ← point width has_display
  _ ← times more (pass_point width has_display)
  done first

-- A reduced header, of a still picture, says only a level.
unfoldable pub level : Bool → List ℕ → Option (Read Av1Level)
level is_reduced = if is_reduced then (u 5 >>= λ level. done (level_of level 0)) else points

-- frame_width_bits_minus_1, frame_height_bits_minus_1, max_frame_width_minus_1, max_frame_height_minus_1.
unfoldable pub frame_size : List ℕ → Option (Read PictureSize)
frame_size = do
  width_bits ← u 4
  height_bits ← u 4
  width ← u (width_bits + 1)
  height ← u (height_bits + 1)
  done (size_of (width + 1) (height + 1))

-- frame_id_numbers_present_flag, and the lengths of the numbers.
unfoldable pub frame_ids : List ℕ → Option (Read (Unit {0}))
frame_ids = do
  is_there ← flag
  when is_there (pass 7)

-- Whether screen content tools may be used: chosen by frame, or as seq_force_screen_content_tools says.
unfoldable pub screen : List ℕ → Option (Read Bool)
screen = do
  is_chosen ← flag
  if is_chosen then done true else flag

-- seq_choose_integer_mv, and seq_force_integer_mv without it; neither without screen content.
unfoldable pub integer_mv : Bool → List ℕ → Option (Read (Unit {0}))
integer_mv has_screen = if has_screen then (flag >>= λ is_chosen. when (not is_chosen) (pass 1)) else done tt

-- enable_interintra_compound to enable_dual_filter; enable_order_hint, and with it enable_jnt_comp and
-- enable_ref_frame_mvs; screen content and integer motion vectors; order_hint_bits_minus_1.
unfoldable pub inter_tools : List ℕ → Option (Read (Unit {0}))
inter_tools = do
  _ ← pass 4
  has_order ← flag
  _ ← when has_order (pass 2)
  has_screen ← screen
  _ ← integer_mv has_screen
  when has_order (pass 3)

-- use_128x128_superblock, enable_filter_intra and enable_intra_edge_filter; enable_superres, enable_cdef and
-- enable_restoration. A header that isn't reduced has frame numbers before the first three, and tools between.
unfoldable pub tools : Bool → List ℕ → Option (Read (Unit {0}))
tools is_reduced = if is_reduced then pass 6 else do
  _ ← frame_ids
  _ ← pass 3
  _ ← inter_tools
  pass 3

abbrev pub sequence_of : ℕ → Av1Level → PictureSize → Av1Color → Av1Sequence
sequence_of profile level size color = record { profile = profile; level = level; size = size; color = color }

-- seq_profile, still_picture, reduced_still_picture_header, levels, size, tools and colours.
unfoldable pub sequence_header : List ℕ → Option (Read Av1Sequence)
sequence_header = do
  profile ← u 3
  _ ← pass 1
  is_reduced ← flag
  level ← level is_reduced
  size ← frame_size
  _ ← tools is_reduced
  color ← color_config profile
  done (sequence_of profile level size color)

abbrev pub av1_sequence : List ℕ → Option Av1Sequence
av1_sequence content = value_of (sequence_header (bits content))

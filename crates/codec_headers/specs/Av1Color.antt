-- Colours in sequence headers of AV1 (AV1 bitstream specification 5.5.2).
use Rattle.std.specs.Prelude.{ℕ, ◌==◌, ◌&&◌, ◌||◌, Bool, true, false, not, List, Option, if◌then◌else◌}
use Rattle.codec_headers.specs.Bits.{Read, ◌>>=◌, done, flag, pass, u}
use Rattle.codec_headers.specs.declared.av1_color.Av1Chroma.{Av1Chroma}
use Rattle.codec_headers.specs.declared.av1_color.Av1Color.{Av1Color}

unfoldable pub flag_if : Bool → List ℕ → Option (Read Bool)
flag_if is_there = if is_there then flag else done false

-- color_primaries, transfer_characteristics and matrix_coefficients of sRGB: CP_BT_709, TC_SRGB and MC_IDENTITY.
unfoldable pub is_srgb : List ℕ → Option (Read Bool)
is_srgb = do
  primaries ← u 8
  transfer ← u 8
  matrix ← u 8
  done ((primaries == 1) && (transfer == 13) && (matrix == 0))

-- color_description_present_flag, and the description.
unfoldable pub description : List ℕ → Option (Read Bool)
description = do
  is_there ← flag
  if is_there then is_srgb else done false

-- subsampling_x, and with it subsampling_y.
unfoldable pub sampled : List ℕ → Option (Read (Bool × Bool))
sampled = do
  across ← flag
  down ← flag_if across
  done (across, down)

-- 4:2:0 in profile 0, 4:4:4 in profile 1, and in others 4:2:2 unless samples have 12 bits.
unfoldable pub sampling : ℕ → Bool → List ℕ → Option (Read (Bool × Bool))
sampling profile is_twelve =
    if profile == 0 then done (true, true)
    else if profile == 1 then done (false, false)
    else if is_twelve then sampled else done (true, false)

-- chroma_sample_position of 4:2:0.
unfoldable pub position : Bool → Bool → List ℕ → Option (Read ℕ)
position across down = if across && down then u 2 else done 0

abbrev pub chroma_of : Bool → Bool → ℕ → Av1Chroma
chroma_of across down position = record { is_half_across = across; is_half_down = down; position = position }

-- color_range, the sampling, and the position.
unfoldable pub subsampled : ℕ → Bool → List ℕ → Option (Read Av1Chroma)
subsampled profile is_twelve = do
  _ ← pass 1
  halves ← sampling profile is_twelve
  position ← position halves.0 halves.1
  done (chroma_of halves.0 halves.1 position)

-- Without chroma both flags of sampling are set, and for sRGB neither is.
unfoldable pub chroma : ℕ → Bool → Bool → Bool → List ℕ → Option (Read Av1Chroma)
chroma profile is_twelve is_mono is_srgb =
    if is_mono || is_srgb then done (chroma_of is_mono is_mono 0) else subsampled profile is_twelve

abbrev pub color_of : Bool → Bool → Bool → Av1Chroma → Av1Color
color_of is_high is_twelve is_mono chroma =
    record { is_high = is_high; is_twelve = is_twelve; is_mono = is_mono; chroma = chroma }

-- high_bitdepth; twelve_bit in profile 2; mono_chrome, but not in profile 1; the description; chroma.
unfoldable pub color_config : ℕ → List ℕ → Option (Read Av1Color)
color_config profile = do
  is_high ← flag
  is_twelve ← flag_if ((profile == 2) && is_high)
  is_mono ← flag_if (not (profile == 1))
  is_srgb ← description
  chroma ← chroma profile is_twelve is_mono is_srgb
  done (color_of is_high is_twelve is_mono chroma)

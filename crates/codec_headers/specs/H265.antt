-- Sequence parameter sets of H.265 (7.3.2.2).
use Rattle.std.specs.Prelude.{ℕ, zero, suc, ◌+◌, ◌-◌, ◌*◌, ◌/◌, ◌%◌, ◌==◌, Bool, nat_lt, List, Option, None}
use Rattle.std.specs.Prelude.{if◌then◌else◌}
use Rattle.codec_headers.specs.Bits.{Read, ◌>>=◌, bits, done, flag, gives, pass, pass_code, u, ue, value_of, when}
use Rattle.codec_headers.specs.Nal.{payload}
use Rattle.codec_headers.specs.Picture.{cropping, shown, sub_height, sub_width}
use Rattle.codec_headers.specs.declared.picture.PictureSize.{PictureSize}
use Rattle.codec_headers.specs.declared.h265.HevcProfile.{HevcProfile}
use Rattle.codec_headers.specs.declared.h265.HevcLayers.{HevcLayers}
use Rattle.codec_headers.specs.declared.h265.HevcSequence.{HevcSequence}

-- A code of at most so much.
unfoldable pub code_to : ℕ → List ℕ → Option (Read ℕ)
code_to most = do
  code ← ue
  if nat_lt most code then gives None else done code

-- The general part of profile_tier_level (7.3.3): general_profile_space, general_tier_flag and general_profile_idc in
-- eight bits; 32 compatibility flags; 48 bits of constraint flags; general_level_idc.
abbrev pub profile_of : ℕ → ℕ → ℕ → ℕ → ℕ → HevcProfile
profile_of profile compatibility constraints more level = record {
  profile = profile;
  compatibility = compatibility;
  constraints = constraints;
  more_constraints = more;
  level = level;
}

unfoldable pub general : List ℕ → Option (Read HevcProfile)
general = do
  profile ← u 8
  compatibility ← u 32
  constraints ← u 32
  more ← u 16
  level ← u 8
  done (profile_of profile compatibility constraints more level)

-- For each sub-layer below the highest a flag whether its profile follows, of 88 bits, and a flag whether its level
-- follows, of 8 bits. The sum of these bits, after some that are summed already.
abbrev pub layer_bits : ℕ → ℕ
layer_bits flags = 88 * (flags / 2) + 8 * (flags % 2)

unfoldable pub layer_flags : ℕ → ℕ → List ℕ → Option (Read ℕ)
layer_flags zero sum = done sum
layer_flags (suc n) sum = u 2 >>= λ flags. layer_flags n (sum + layer_bits flags)

-- The flags of n sub-layers, two reserved bits for each of 8 that isn't there if any is, and the profiles and levels.
unfoldable pub sub_layers : ℕ → List ℕ → Option (Read (Unit {0}))
sub_layers n = do
  sum ← layer_flags n 0
  _ ← when (nat_lt 0 n) (pass (2 * (8 - n)))
  pass sum

-- sps_max_sub_layers_minus1, which is at most 6.
unfoldable pub layers_above : List ℕ → Option (Read ℕ)
layers_above = do
  above ← u 3
  if nat_lt 6 above then gives None else done above

abbrev pub layers_of : ℕ → Bool → HevcProfile → HevcLayers
layers_of count is_nested profile = record { count = count; is_nested = is_nested; profile = profile }

-- The unit's header of 16 bits and sps_video_parameter_set_id; sps_max_sub_layers_minus1; sps_temporal_id_nesting_flag;
-- profile_tier_level; sps_seq_parameter_set_id.
unfoldable pub sequence_front : List ℕ → Option (Read HevcLayers)
sequence_front = do
  _ ← pass 20
  above ← layers_above
  is_nested ← flag
  profile ← general
  _ ← sub_layers above
  _ ← pass_code
  done (layers_of (above + 1) is_nested profile)

-- chroma_format_idc, and separate_colour_plane_flag for 4:4:4.
unfoldable pub chroma_format : List ℕ → Option (Read ℕ)
chroma_format = do
  format ← code_to 3
  _ ← when (format == 3) (pass 1)
  done format

-- pic_width_in_luma_samples, pic_height_in_luma_samples and the conformance window, whose offsets are in chroma samples
-- (7.4.3.2.1).
unfoldable pub picture : ℕ → List ℕ → Option (Read PictureSize)
picture format = do
  width ← ue
  height ← ue
  cut ← cropping
  gives (shown width (sub_width format * cut.0) height (sub_height format * cut.1))

abbrev pub sequence_of : HevcLayers → PictureSize → ℕ → ℕ → ℕ → HevcSequence
sequence_of layers size format luma chroma = record {
  layers = layers;
  size = size;
  format = format;
  luma = luma;
  chroma = chroma;
}

-- The chroma format, the size, bit_depth_luma_minus8 and bit_depth_chroma_minus8, which have three bits in a
-- configuration record.
unfoldable pub sequence_after : HevcLayers → List ℕ → Option (Read HevcSequence)
sequence_after layers = do
  format ← chroma_format
  size ← picture format
  luma ← code_to 7
  chroma ← code_to 7
  done (sequence_of layers size format luma chroma)

-- What a set's payload says, and a set.
unfoldable pub sps : List ℕ → Option HevcSequence
sps bs = value_of ((sequence_front >>= sequence_after) bs)

abbrev pub hevc_sequence : List ℕ → Option HevcSequence
hevc_sequence unit = sps (bits (payload unit))

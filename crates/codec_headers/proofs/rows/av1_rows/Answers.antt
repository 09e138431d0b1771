use Rattle.std.proofs.Common.{refl}
use Rattle.codec_headers.specs.Av1.{model, timing_info, timing, tier_of, delays, display, point, pass_point, points}
use Rattle.codec_headers.specs.Av1.{level, frame_size, frame_ids, screen, integer_mv, inter_tools, tools}
use Rattle.codec_headers.specs.Av1.{sequence_header}
use Rattle.codec_headers.specs.Av1Color.{flag_if, is_srgb, description, sampled, sampling, position, subsampled}
use Rattle.codec_headers.specs.Av1Color.{chroma, color_config}
use Rattle.codec_headers.specs.Bits.{bits, number, pass, times, zeros, u, ue}
use Rattle.codec_headers.proofs.rows.av1_rows.Goals as goal

pub returns-clause-whole : goal.returns-clause-whole
unfolding bits number pass times zeros u ue model timing_info timing tier_of delays display point pass_point points level frame_size frame_ids screen integer_mv inter_tools tools sequence_header flag_if is_srgb description sampled sampling position subsampled chroma color_config
returns-clause-whole c = refl

pub returns-clause-reduced : goal.returns-clause-reduced
unfolding bits number pass times zeros u ue model timing_info timing tier_of delays display point pass_point points level frame_size frame_ids screen integer_mv inter_tools tools sequence_header flag_if is_srgb description sampled sampling position subsampled chroma color_config
returns-clause-reduced c = refl

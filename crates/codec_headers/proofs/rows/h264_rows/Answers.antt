use Rattle.std.proofs.Common.{refl}
use Rattle.codec_headers.specs.Bits.{bits, number, pass, times, zeros, u, ue}
use Rattle.codec_headers.specs.H264.{scale_after, scale_read, scales, scaling_list, scaling_matrix, format_of_high}
use Rattle.codec_headers.specs.H264.{chroma_format, front, cycle, order, fields, size_after, sps}
use Rattle.codec_headers.specs.Nal.{payload_after}
use Rattle.codec_headers.specs.Picture.{fitting, shown, cuts, cropping}
use Rattle.codec_headers.proofs.rows.h264_rows.Goals as goal

pub returns-clause-interlaced : goal.returns-clause-interlaced
unfolding bits number pass times zeros u ue fitting shown cuts cropping payload_after scale_after scale_read scales scaling_list scaling_matrix format_of_high chroma_format front cycle order fields size_after sps
returns-clause-interlaced c = refl

pub returns-clause-wide : goal.returns-clause-wide
unfolding bits number pass times zeros u ue fitting shown cuts cropping payload_after scale_after scale_read scales scaling_list scaling_matrix format_of_high chroma_format front cycle order fields size_after sps
returns-clause-wide c = refl

pub returns-clause-scaled : goal.returns-clause-scaled
unfolding bits number pass times zeros u ue fitting shown cuts cropping payload_after scale_after scale_read scales scaling_list scaling_matrix format_of_high chroma_format front cycle order fields size_after sps
returns-clause-scaled c = refl

pub returns-clause-plain : goal.returns-clause-plain
unfolding bits number pass times zeros u ue fitting shown cuts cropping payload_after scale_after scale_read scales scaling_list scaling_matrix format_of_high chroma_format front cycle order fields size_after sps
returns-clause-plain c = refl

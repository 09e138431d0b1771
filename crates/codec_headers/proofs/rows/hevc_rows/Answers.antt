use Rattle.std.proofs.Common.{refl}
use Rattle.codec_headers.specs.Bits.{bits, number, pass, zeros, u, ue}
use Rattle.codec_headers.specs.H265.{code_to, general, layer_flags, sub_layers, layers_above, sequence_front}
use Rattle.codec_headers.specs.H265.{chroma_format, picture, sequence_after, sps}
use Rattle.codec_headers.specs.Nal.{payload_after}
use Rattle.codec_headers.specs.Picture.{fitting, shown, cuts, cropping}
use Rattle.codec_headers.proofs.rows.hevc_rows.Goals as goal

pub returns-clause-plain : goal.returns-clause-plain
unfolding bits number pass zeros u ue fitting shown cuts cropping payload_after code_to general layer_flags sub_layers layers_above sequence_front chroma_format picture sequence_after sps
returns-clause-plain c = refl

pub returns-clause-wide : goal.returns-clause-wide
unfolding bits number pass zeros u ue fitting shown cuts cropping payload_after code_to general layer_flags sub_layers layers_above sequence_front chroma_format picture sequence_after sps
returns-clause-wide c = refl

use Rattle.std.proofs.Common.{refl}
use Rattle.codec_headers.specs.Bits.{bits, number, only, pass, u}
use Rattle.codec_headers.specs.Vp8.{vp8_size}
use Rattle.codec_headers.specs.Vp9.{profile_of, color_config, frame_size, key_frame}
use Rattle.codec_headers.proofs.rows.vpx_rows.Goals as goal

pub returns-clause-vp8 : goal.returns-clause-vp8
unfolding bits number pass only u vp8_size profile_of color_config frame_size key_frame
returns-clause-vp8 c = refl

pub returns-clause-vp9 : goal.returns-clause-vp9
unfolding bits number pass only u vp8_size profile_of color_config frame_size key_frame
returns-clause-vp9 c = refl

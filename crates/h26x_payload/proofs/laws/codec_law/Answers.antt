use Rattle.h26x_payload.proofs.CodecLaws.{forms_keep_units, keep_codec_law, keep_codec_law_in}
use Rattle.h26x_payload.proofs.laws.codec_law.Goals as goal

pub returns-clause-codec : goal.returns-clause-codec
returns-clause-codec c = keep_codec_law (record {
  pieces = c.plain_laws.ensures.pieces;
  noise = c.plain_laws.ensures.noise;
  amr_wb = c.amr_wb_law.ensures;
  telephone = c.telephone_law.ensures;
  vp8 = c.vp8_law.ensures.codec;
  vp9 = c.vp9_law.ensures.codec;
  av1 = c.av1_law.ensures.codec;
  h264 = c.h264_law.ensures.codec;
  h265_h266 = c.h265_h266_law.ensures.codec;
})

pub returns-clause-codec_in_forms : goal.returns-clause-codec_in_forms
returns-clause-codec_in_forms c = keep_codec_law_in (record {
  pieces = c.plain_laws.ensures.pieces;
  noise = c.plain_laws.ensures.noise;
  amr_wb = c.amr_wb_law.ensures;
  telephone = c.telephone_law.ensures;
  vp8 = c.vp8_law.ensures.codec;
  vp9 = c.vp9_law.ensures.codec;
  av1 = c.av1_law.ensures.codec;
  h264 = c.h264_law.ensures.codec;
  h265_h266 = c.h265_h266_law.ensures.codec;
})

pub returns-clause-units_in_forms : goal.returns-clause-units_in_forms
returns-clause-units_in_forms c = forms_keep_units c.vp8_law.ensures.same_units c.vp9_law.ensures.same_units

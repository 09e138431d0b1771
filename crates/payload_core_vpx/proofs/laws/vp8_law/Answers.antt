use Rattle.payload_core_vpx.proofs.Vp8Law.{vp8_codec_law, vp8_full, vp8_same_units, vp8_silent}
use Rattle.payload_core_vpx.proofs.laws.vp8_law.Goals as goal

pub returns : goal.returns
returns c = record { codec = vp8_codec_law; full = vp8_full; silent = vp8_silent; same_units = vp8_same_units }

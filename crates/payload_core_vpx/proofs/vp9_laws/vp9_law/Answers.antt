use Rattle.payload_core_vpx.proofs.Vp9Law.{vp9_codec_law, vp9_full, vp9_same_units, vp9_silent}
use Rattle.payload_core_vpx.proofs.vp9_laws.vp9_law.Goals as goal

pub returns : goal.returns
returns c = record { codec = vp9_codec_law; full = vp9_full; silent = vp9_silent; same_units = vp9_same_units }

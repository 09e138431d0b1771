use Rattle.payload_core_audio.proofs.AmrWbLaw.{amr_wb_codec_law}
use Rattle.payload_core_audio.proofs.amr_wb_laws.amr_wb_law.Goals as goal

pub returns : goal.returns
returns c = amr_wb_codec_law

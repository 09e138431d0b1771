use Rattle.payload_core_av1.proofs.Av1Law.{av1_codec_law}
use Rattle.payload_core_av1.proofs.UnitLemmas.{kept_once}
use Rattle.payload_core_av1.proofs.laws.av1_law.Goals as goal

pub returns : goal.returns
returns c = record { codec = av1_codec_law; kept_once = kept_once }

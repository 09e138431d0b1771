use Rattle.payload_core_audio.proofs.RedLawLemmas.{wrap-one, wrap-read, wrap-within}
use Rattle.payload_core_audio.proofs.red_laws.red_wrap_law.Goals as goal

pub returns : goal.returns
returns c = record { within = wrap-within; read = wrap-read; one = wrap-one }

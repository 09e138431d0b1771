use Rattle.payload_core_audio.proofs.PlainLemmas.{noise_law, pieces_law}
use Rattle.payload_core_audio.proofs.audio_laws.plain_laws.Goals as goal

pub returns : goal.returns
returns c = record { pieces = pieces_law; noise = noise_law }

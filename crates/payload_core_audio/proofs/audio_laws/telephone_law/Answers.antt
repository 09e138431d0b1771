use Rattle.payload_core_audio.proofs.TelephoneLaw.{telephone_codec_law}
use Rattle.payload_core_audio.proofs.audio_laws.telephone_law.Goals as goal

pub returns : goal.returns
returns c = telephone_codec_law

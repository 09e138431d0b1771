use Rattle.payload_core_audio.proofs.LayoutLemmas.{red-read}
use Rattle.payload_core_audio.proofs.RedLawLemmas.{packed-again, packed-comes-back}
use Rattle.payload_core_audio.proofs.SoundLemmas.{red-sound}
use Rattle.payload_core_audio.proofs.red_laws.red_law.Goals as goal

pub returns : goal.returns
returns c = record {
  spelled_is_read = red-read;
  read_is_spelled = red-sound;
  packed_comes_back =
      packed-comes-back;
  packed_again = packed-again;
}

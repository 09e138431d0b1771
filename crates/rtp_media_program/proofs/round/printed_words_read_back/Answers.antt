use Rattle.rtp_media_program.proofs.ReadBack.{number_below-decimal, hex_of-hex_text}
use Rattle.rtp_media_program.proofs.round.printed_words_read_back.Goals as goal

pub returns : goal.returns
returns c = record { numbers = number_below-decimal; hexes = hex_of-hex_text }

use Rattle.sdp_formats_values.proofs.HexNumerals.{hex_number-gives}
use Rattle.sdp_formats_values.proofs.fingerprint_reader.HexNumberReadsU8.read.Goals as goal

pub returns : goal.returns
returns c = rw (c.ok_or.ensures.value, c.ok.ensures.value)
    (hex_number-gives c.args.text.now _ c.from_str_radix.ensures.value)

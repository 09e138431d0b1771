use Rattle.sdp_formats_reader.specs.AttributesChoice.{attribute_line}
use Rattle.sdp_formats_reader.specs.AsRead.{as_read}
use Rattle.std.proofs.Common.{◌∷◌}
use Rattle.sdp_formats_data.specs.PrintedMedia.{attribute_text}
use Rattle.sdp_formats_data.specs.declared.media.MediaAttribute.TheVariants.{Fmtp}
use Rattle.sdp_formats_laws.proofs.PartedKinds.{fmtp_line}
use Rattle.sdp_formats_laws.proofs.Printed.{printed_line}
use Rattle.sdp_formats_laws.proofs.Whole.{printed}
use Rattle.sdp_formats_laws.proofs.lines.printed_lines_law.Goals as goal

pub returns-clause-printable : goal.returns-clause-printable
returns-clause-printable c = λ a rest h. printed_line attribute_line c.exact_law.ensures (as_read a) (attribute_text a)
    rest (printed (c.printed_pairs_law.ensures.restrictions, c.parameter_lists_law.ensures) a h)

pub returns-clause-parameters : goal.returns-clause-parameters
returns-clause-parameters c = λ pt p ps rest low h. printed_line attribute_line c.exact_law.ensures
    (as_read (Fmtp pt (p ∷ ps))) (attribute_text (Fmtp pt (p ∷ ps))) rest (fmtp_line pt p ps low h.0 h.2)

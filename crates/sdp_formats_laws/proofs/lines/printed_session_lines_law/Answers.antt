use Rattle.std.proofs.Common.{codes}
use Rattle.sdp_formats_reader.specs.ReaderChoice.{attribute_line}
use Rattle.sdp_formats_data.specs.PrintedSession.{attribute_text}
use Rattle.sdp_formats_data.specs.declared.session.SessionAttribute.TheVariants.{AllowMixedExts, Unused}
use Rattle.sdp_formats_laws.proofs.Printed.{printed_line}
use Rattle.sdp_formats_laws.proofs.SessionKinds.{allow_mixed}
use Rattle.sdp_formats_laws.proofs.WholeSession.{printed}
use Rattle.sdp_formats_laws.proofs.lines.printed_session_lines_law.Goals as goal

pub returns-clause-printable : goal.returns-clause-printable
returns-clause-printable c = λ a rest h. printed_line attribute_line c.exact_law.ensures a (attribute_text a) rest
    (printed a h)

pub returns-clause-mixed : goal.returns-clause-mixed
returns-clause-mixed c = λ rest. printed_line attribute_line c.exact_law.ensures (Unused (codes "extmap-allow-mixed"))
    (attribute_text AllowMixedExts) rest allow_mixed

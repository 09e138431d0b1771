use Rattle.sdp_formats_laws.proofs.SectionFormats.{formats_of_sections}
use Rattle.sdp_formats_laws.proofs.sections.section_formats_law.Goals as goal

pub returns : goal.returns
returns c = formats_of_sections

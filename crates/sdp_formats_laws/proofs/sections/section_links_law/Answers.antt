use Rattle.sdp_formats_laws.proofs.SectionLinks.{last_links}
use Rattle.sdp_formats_laws.proofs.sections.section_links_law.Goals as goal

pub returns : goal.returns
returns c = last_links

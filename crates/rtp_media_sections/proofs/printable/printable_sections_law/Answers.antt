use Rattle.rtp_media_sections.proofs.Printables.{answered_sections, offered_sections}
use Rattle.rtp_media_sections.proofs.printable.printable_sections_law.Goals as goal

pub returns-clause-offered : goal.returns-clause-offered
returns-clause-offered c = offered_sections

pub returns-clause-answered : goal.returns-clause-answered
returns-clause-answered c = answered_sections

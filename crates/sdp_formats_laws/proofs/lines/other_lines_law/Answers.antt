use Rattle.sdp_formats_laws.proofs.OtherLines.{stays_in_sections, stays_in_sessions}
use Rattle.sdp_formats_laws.proofs.lines.other_lines_law.Goals as goal

pub returns-clause-section : goal.returns-clause-section
returns-clause-section c = stays_in_sections

pub returns-clause-session : goal.returns-clause-session
returns-clause-session c = stays_in_sessions

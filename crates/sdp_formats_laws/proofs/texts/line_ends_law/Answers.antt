use Rattle.sdp_formats_laws.proofs.LineEnds.{by_any_end}
use Rattle.sdp_formats_laws.proofs.SameLines.{by_same_lines, end_either_way, session_by_same_lines}
use Rattle.sdp_formats_laws.proofs.texts.line_ends_law.Goals as goal

pub returns-clause-returns : goal.returns-clause-returns
returns-clause-returns c = by_any_end

pub returns-clause-lines : goal.returns-clause-lines
returns-clause-lines c = by_same_lines

pub returns-clause-session : goal.returns-clause-session
returns-clause-session c = session_by_same_lines

pub returns-clause-either : goal.returns-clause-either
returns-clause-either c = end_either_way

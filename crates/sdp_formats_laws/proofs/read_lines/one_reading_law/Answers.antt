use Rattle.sdp_formats_reader.proofs.One.{sdp-one, session-one}
use Rattle.sdp_formats_laws.proofs.read_lines.one_reading_law.Goals as goal

pub returns-clause-text : goal.returns-clause-text
returns-clause-text c = sdp-one c.exact_law.ensures c.exact_law-2.ensures

pub returns-clause-session : goal.returns-clause-session
returns-clause-session c = session-one c.exact_law.ensures

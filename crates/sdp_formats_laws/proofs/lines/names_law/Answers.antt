use Rattle.sdp_formats_laws.proofs.Names.{letters_and_numbers, names_are_read}
use Rattle.sdp_formats_laws.proofs.lines.names_law.Goals as goal

pub returns-clause-printable : goal.returns-clause-printable
returns-clause-printable c = names_are_read

pub returns-clause-letters : goal.returns-clause-letters
returns-clause-letters c = letters_and_numbers

use Rattle.sdp_formats_laws.proofs.ValueTexts.{fingerprints_back, from_text, read_named}
use Rattle.sdp_formats_laws.proofs.values.fingerprint_texts_law.Goals as goal

pub returns-clause-printed : goal.returns-clause-printed
returns-clause-printed c = fingerprints_back

pub returns-clause-read : goal.returns-clause-read
returns-clause-read c = read_named

pub returns-clause-from_text : goal.returns-clause-from_text
returns-clause-from_text c = from_text

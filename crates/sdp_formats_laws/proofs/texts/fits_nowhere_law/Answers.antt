use Rattle.sdp_formats_laws.proofs.Behind.{session_stays_with_what_fits_nowhere, stays_with_what_fits_nowhere}
use Rattle.sdp_formats_laws.proofs.OtherLetters.{others_fit_nowhere}
use Rattle.sdp_formats_laws.proofs.texts.fits_nowhere_law.Goals as goal

pub returns-clause-same : goal.returns-clause-same
returns-clause-same c = stays_with_what_fits_nowhere c.exact_law.ensures

pub returns-clause-session : goal.returns-clause-session
returns-clause-session c = session_stays_with_what_fits_nowhere

pub returns-clause-letters : goal.returns-clause-letters
returns-clause-letters c = others_fit_nowhere

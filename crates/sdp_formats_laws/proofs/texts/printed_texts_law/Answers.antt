use Rattle.sdp_formats_laws.proofs.WholeTexts.{lines_say, session_alone, text_says}
use Rattle.sdp_formats_laws.proofs.texts.printed_texts_law.Goals as goal

pub returns-clause-text : goal.returns-clause-text
returns-clause-text c =
    text_says (c.printed_pairs_law.ensures.restrictions, c.parameter_lists_law.ensures) c.exact_law.ensures
    c.exact_law-2.ensures

pub returns-clause-session : goal.returns-clause-session
returns-clause-session c = session_alone c.exact_law.ensures

pub returns-clause-lines : goal.returns-clause-lines
returns-clause-lines c = lines_say c.exact_law.ensures

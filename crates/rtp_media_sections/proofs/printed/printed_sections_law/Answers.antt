use Rattle.rtp_media_sections.proofs.ReadBack.{come_back}
use Rattle.rtp_media_sections.proofs.SameTexts.{names_print_same}
use Rattle.rtp_media_sections.proofs.Texts.{texts_say}
use Rattle.rtp_media_sections.proofs.printed.printed_sections_law.Goals as goal

pub returns-clause-names : goal.returns-clause-names
returns-clause-names c = names_print_same

pub returns-clause-sections : goal.returns-clause-sections
returns-clause-sections c = come_back c.plain_rows_come_back.ensures c.read_rows_law.ensures c.read_sections_law.ensures

pub returns-clause-texts : goal.returns-clause-texts
returns-clause-texts c = texts_say c.written_row_texts_law.ensures.grouped
    (come_back c.plain_rows_come_back.ensures c.read_rows_law.ensures c.read_sections_law.ensures)
    c.one_reading_law.ensures.text

use Rattle.sdp_formats_laws.proofs.RowTexts.{texts_back}
use Rattle.sdp_formats_laws.proofs.rows.row_texts_law.Goals as goal

pub returns : goal.returns
returns c = texts_back c.printed_texts_law.ensures.text c.plain_rows_come_back.ensures c.row_lines_law.ensures
    c.rows_without_fault_law.ensures c.read_rows_law.ensures

use Rattle.sdp_formats_laws.proofs.WritableTexts.{grouped_texts_back, printable_writable, usual_written}
use Rattle.sdp_formats_laws.proofs.WritableTexts.{written_texts_back}
use Rattle.sdp_formats_laws.proofs.rows.written_row_texts_law.Goals as goal

pub returns-clause-come_back : goal.returns-clause-come_back
returns-clause-come_back c = written_texts_back
    (c.printed_pairs_law.ensures.restrictions, c.parameter_lists_law.ensures) c.exact_law.ensures
    c.exact_law-2.ensures c.plain_rows_come_back.ensures c.row_lines_law.ensures c.rows_without_fault_law.ensures
    c.read_rows_law.ensures

pub returns-clause-grouped : goal.returns-clause-grouped
returns-clause-grouped c = grouped_texts_back (written_texts_back
    (c.printed_pairs_law.ensures.restrictions, c.parameter_lists_law.ensures) c.exact_law.ensures
    c.exact_law-2.ensures c.plain_rows_come_back.ensures c.row_lines_law.ensures c.rows_without_fault_law.ensures
    c.read_rows_law.ensures)

pub returns-clause-printable : goal.returns-clause-printable
returns-clause-printable c = printable_writable c.exact_law.ensures

pub returns-clause-usual : goal.returns-clause-usual
returns-clause-usual c = usual_written c.exact_law.ensures

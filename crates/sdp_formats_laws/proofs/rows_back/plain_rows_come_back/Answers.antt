use Rattle.sdp_formats_laws.proofs.WholeRows.{plain_rows_come_back}
use Rattle.sdp_formats_laws.proofs.rows_back.plain_rows_come_back.Goals as goal

pub returns : goal.returns
returns c = plain_rows_come_back

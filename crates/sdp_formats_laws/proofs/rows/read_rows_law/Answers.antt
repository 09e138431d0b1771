use Rattle.sdp_formats_laws.proofs.RowsSame.{rows_same}
use Rattle.sdp_formats_laws.proofs.rows.read_rows_law.Goals as goal

pub returns : goal.returns
returns c = rows_same

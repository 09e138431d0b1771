use Rattle.sdp_formats_laws.proofs.Faultless.{no_fault}
use Rattle.sdp_formats_laws.proofs.rows.rows_without_fault_law.Goals as goal

pub returns : goal.returns
returns c = no_fault

use Rattle.payload_core_av1.proofs.Av1LayoutLaw.{layout_law, read_law, short_law}
use Rattle.payload_core_av1.proofs.laws.av1_layout_law.Goals as goal

pub returns : goal.returns
returns c = record { laid_out = layout_law; read = read_law; short = short_law }

use Rattle.payload_core_vpx.proofs.LayoutLaw.{layout_law, only_law, parsed_law, read_law}
use Rattle.payload_core_vpx.proofs.laws.vp8_layout_law.Goals as goal

pub returns : goal.returns
returns c = record { laid_out = layout_law; parsed = parsed_law; read = read_law; only = only_law }

use Rattle.payload_core_vpx.proofs.Vp9LayoutLaw.{layout_law}
use Rattle.payload_core_vpx.proofs.Vp9SoundLaw.{read_law, too_many_law}
use Rattle.payload_core_vpx.proofs.vp9_laws.vp9_layout_law.Goals as goal

pub returns : goal.returns
returns c = record { laid_out = layout_law; read = read_law; too_many = too_many_law }

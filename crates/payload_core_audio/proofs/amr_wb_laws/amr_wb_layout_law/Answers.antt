use Rattle.payload_core_audio.proofs.AmrWbLayout.{laid_out_frames}
use Rattle.payload_core_audio.proofs.amr_wb_laws.amr_wb_layout_law.Goals as goal

pub returns : goal.returns
returns c = record { exactly = laid_out_frames }

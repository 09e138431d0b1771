use Rattle.h26x_payload_formats.proofs.FragmentLaw.{fragment_law}
use Rattle.h26x_payload_formats.proofs.layout_laws.h265_h266_reading_law.Goals as goal

pub returns : goal.returns
returns c = fragment_law

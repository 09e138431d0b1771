use Rattle.h26x_payload_units.proofs.CutLemmas.{cut_law}
use Rattle.h26x_payload_units.proofs.SplitLemmas.{place_law}
use Rattle.h26x_payload_units.proofs.UnitLemmas.{comes_back, units_law}
use Rattle.h26x_payload_units.proofs.unit_laws.cut_law.Goals as goal

pub returns : goal.returns
returns c = record { cut = cut_law; units = units_law; places = place_law; comes_back = comes_back }

use Rattle.sdp_formats_laws.proofs.OtherEntries.{level_names, others}
use Rattle.sdp_formats_laws.proofs.repeated_keys.other_parameters_law.Goals as goal

pub returns : goal.returns
returns c = record { others = others; names = level_names }

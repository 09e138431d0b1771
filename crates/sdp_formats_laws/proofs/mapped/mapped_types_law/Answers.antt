use Rattle.sdp_formats_laws.proofs.MappedTypes.{each_type, static_behind}
use Rattle.sdp_formats_laws.proofs.mapped.mapped_types_law.Goals as goal

pub returns : goal.returns
returns c = record { behind = static_behind; each = each_type }

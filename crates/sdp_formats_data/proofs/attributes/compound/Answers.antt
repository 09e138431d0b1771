use Rattle.std.proofs.Common.{rules}
use Rattle.sdp_formats_data.specs.Compound.{is_compound, is_source}
use Rattle.sdp_formats_data.proofs.attributes.compound.Goals as goal

pub source-requires : goal.source-requires
unfolding is_compound is_source
source-requires c = search rules

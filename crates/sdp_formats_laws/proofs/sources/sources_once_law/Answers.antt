use Rattle.sdp_formats_laws.proofs.DistinctSources.{sources_once}
use Rattle.sdp_formats_laws.proofs.NamedSources.{sources_named}
use Rattle.sdp_formats_laws.proofs.sources.sources_once_law.Goals as goal

pub returns : goal.returns
returns c = record { exactly = sources_once; named = sources_named }

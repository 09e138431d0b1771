use Rattle.sdp_formats_laws.proofs.ReadableLists.{lists_back}
use Rattle.sdp_formats_laws.proofs.printed_parameters.parameter_lists_law.Goals as goal

pub returns : goal.returns
returns c = lists_back c.pairs_law.ensures c.printed_pairs_law.ensures.pairs c.h265_tables_law.ensures.comes_back
    c.h266_tables_law.ensures.comes_back

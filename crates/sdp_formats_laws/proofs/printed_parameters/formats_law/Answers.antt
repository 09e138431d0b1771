use Rattle.sdp_formats_laws.proofs.FormatsRead.{formats_back}
use Rattle.sdp_formats_laws.proofs.PlainFormats.{as_plain, in_range}
use Rattle.sdp_formats_laws.proofs.printed_parameters.formats_law.Goals as goal

pub returns-clause-come_back : goal.returns-clause-come_back
returns-clause-come_back c =
    formats_back c.h265_tables_law.ensures.comes_back c.h266_tables_law.ensures.comes_back

pub returns-clause-in_range : goal.returns-clause-in_range
returns-clause-in_range c =
    in_range (formats_back c.h265_tables_law.ensures.comes_back c.h266_tables_law.ensures.comes_back)

pub returns-clause-rows : goal.returns-clause-rows
returns-clause-rows c =
    as_plain (formats_back c.h265_tables_law.ensures.comes_back c.h266_tables_law.ensures.comes_back)

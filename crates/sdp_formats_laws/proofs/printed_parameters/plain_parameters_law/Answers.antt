use Rattle.sdp_formats_laws.proofs.PlainRows.{row_readable}
use Rattle.sdp_formats_section_rows.specs.Attributes.{params_in}
use Rattle.sdp_formats_laws.proofs.printed_parameters.plain_parameters_law.Goals as goal

pub returns-clause-readable : goal.returns-clause-readable
returns-clause-readable c = row_readable

pub returns-clause-come_back : goal.returns-clause-come_back
returns-clause-come_back c = λ row h.
    let plain = row_readable row h in (c.parameter_lists_law.ensures (params_in row.spec) plain.0, plain.1)

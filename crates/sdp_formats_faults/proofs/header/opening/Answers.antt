use Rattle.sdp_formats_reader.specs.Lines.{version_line, origin_line, name_line}
use Rattle.sdp_formats_faults.proofs.Walks.{opens, taken}
use Rattle.sdp_formats_faults.proofs.header.opening.Goals as goal

pub returns-in-Some-3 : goal.returns-in-Some-3
returns-in-Some-3 c = opens c.args.text.now c.in-Some.origin.now c.in-Some-2.name.now c.in-Some-3.rest.now
    (taken version_line.Says c.args.text.now _ c.in-Some.origin c.in_ok-origin.ensures c.in-Some.is)
    (taken origin_line.Says c.in-Some.origin.now _ c.in-Some-2.name c.in_ok-name.ensures c.in-Some-2.is)
    (taken name_line.Says c.in-Some-2.name.now _ c.in-Some-3.rest c.in_ok-rest.ensures c.in-Some-3.is)

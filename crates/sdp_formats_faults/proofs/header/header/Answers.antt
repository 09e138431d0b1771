use Rattle.std.proofs.Common.{subst}
use Rattle.sdp_formats_reader.specs.Lines.{times_line}
use Rattle.sdp_formats_faults.specs.Walking.{OpensAs}
use Rattle.sdp_formats_faults.proofs.Walks.{heads, taken}
use Rattle.sdp_formats_faults.proofs.header.header.Goals as goal

pub returns : goal.returns
returns c = heads c.args.text.now c.in-On.rest.now c.in-Ok.rest.now c.in-Ok-perhaps.times.now c.in-Some.rest.now
    c.in-Ok-many.rest.now c.in-Ok-many-2.rest.now
    (subst (OpensAs c.args.text.now) c.in-On.is c.in_ok-failed.ensures)
    c.in-Ok.field-0-0 c.in-Ok.ensures
    c.in-Ok-perhaps.field-0-0 c.in-Ok-perhaps.ensures
    (taken times_line.Says c.in-Ok-perhaps.times.now _ c.in-Some.rest c.in_ok-rest.ensures c.in-Some.is)
    c.in-Ok-many.field-0-0 c.in-Ok-many.ensures
    c.in-Ok-many-2.field-0-0 c.in-Ok-many-2.ensures

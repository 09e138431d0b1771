use Rattle.std.proofs.Common.{subst}
use Rattle.sdp_formats_faults.specs.Walking.{AreSections, HeadsAs}
use Rattle.sdp_formats_faults.specs.declared.fault.LineFault.TheVariants.{Section}
use Rattle.sdp_formats_faults.proofs.Ends.{fails-end}
use Rattle.sdp_formats_faults.proofs.Walks.{all-read, section-fails}
use Rattle.sdp_formats_faults.proofs.finding.failing_line.Goals as goal

pub line_at-requires : goal.line_at-requires
line_at-requires c = fails-end c.args.text.now c.in-At.rest.now c.in-At.fault
    (subst (HeadsAs c.args.text.now) c.in-At.is c.in_ok-rest.ensures)

pub line_at-requires-in-Some : goal.line_at-requires-in-Some
line_at-requires-in-Some c = fails-end c.args.text.now c.in-Some.rest.now (Section c.in-Some.fault)
    (section-fails c.args.text.now c.in-On.rest.now c.in-Some.rest.now c.in-Some.fault
    (subst (HeadsAs c.args.text.now) c.in-On.is c.in_ok-rest.ensures)
    (subst (AreSections c.in-On.rest.now) c.in-Some.is c.in_ok-rest-2.ensures))

pub returns-in-None : goal.returns-in-None
returns-in-None c = all-read c.args.text.now c.in-On.rest.now
    (subst (HeadsAs c.args.text.now) c.in-On.is c.in_ok-rest.ensures)
    (subst (AreSections c.in-On.rest.now) c.in-None.is c.in_ok-rest-2.ensures)

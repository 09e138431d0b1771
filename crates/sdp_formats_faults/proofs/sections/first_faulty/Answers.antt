use Rattle.std.proofs.Common.{rules, subst}
use Rattle.sdp_formats_faults.specs.Walking.{SectionFails}
use Rattle.sdp_formats_faults.proofs.Walks.{none-faulty, one-passed}
use Rattle.sdp_formats_faults.proofs.sections.first_faulty.Goals as goal

pub loop-fault-preserved : goal.loop-fault-preserved
loop-fault-preserved c = (
  search rules,
  one-passed c.args.text.now c.loop-fault.left.now c.in-Ok-None-default.rest.now c.loop-fault.invariant.1
      (subst (λ o. SectionFails c.loop-fault.left.now o c.in-Ok-None-default.rest.now)
      c.in-Ok-None-default.field-0-0-is c.in-Ok-None-default.ensures.steps),
)

pub returns-in-Err-Unfit : goal.returns-in-Err-Unfit
returns-in-Err-Unfit c = none-faulty c.args.text.now c.loop-fault.left.now c.loop-fault.invariant.1
    (rw c.in-Err-Unfit.field-0-is at c.in-Err-Unfit.ensures.steps)

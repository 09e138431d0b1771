use Rattle.std.proofs.Common.{refl}
use Rattle.std.proofs.lemmas.Result.{err_from_is_err_and}
use Rattle.sdp_formats_grammar.specs.Line.{LineOf}
use Rattle.sdp_formats_reader.specs.Grammar.{SectionSays}
use Rattle.sdp_formats_reader.specs.Lines.{head_line}
use Rattle.sdp_formats_faults.specs.Walking.{SectionFails}
use Rattle.sdp_formats_faults.proofs.Walks.{err-as, no-section, section-shorter}
use Rattle.sdp_formats_faults.proofs.sections.section_fault.Goals as goal

pub returns-in_err-head-clause-steps : goal.returns-in_err-head-clause-steps
returns-in_err-head-clause-steps c =
    let p = err_from_is_err_and c.from_residual.result c.from_residual.ensures.1 in
    rw (p.1, p.2) (err-as (LineOf head_line.Says) SectionFails c.args.text.now c.args.text.now _
    c.in_err-head.ensures.steps (no-section _))

pub returns-clause-steps : goal.returns-clause-steps
unfolding SectionSays
returns-clause-steps c = (
  _,
  (
    c.in_ok-head.head,
    c.in_ok-head.rest.now,
    c.in_ok-head.ensures.steps,
    (refl, refl, refl, refl),
    c.in_ok-rest.field-0-0,
    c.in_ok-rest.rest.now,
    c.in_ok-rest.ensures,
    c.in_ok-bw.rest.now,
    c.in_ok-bw.ensures,
    c.in_ok-attrs.ensures,
  ),
  c.check_consistent.ensures,
)

pub returns-clause-shortens : goal.returns-clause-shortens
returns-clause-shortens c = section-shorter _ _ _ (returns-clause-steps c).1

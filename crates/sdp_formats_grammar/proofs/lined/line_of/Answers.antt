use Rattle.std.proofs.lemmas.Result.{err_from_is_err_and}
use Rattle.sdp_formats_grammar.proofs.StepRounds.{line-err}
use Rattle.sdp_formats_grammar.proofs.lined.line_of.Goals as goal

pub returns-in_default-clause-steps : goal.returns-in_default-clause-steps
returns-in_default-clause-steps g c = λ a r l. (rw c.in_default.is at c.line.ensures) l.0 r l.1

pub returns-in_err-value-clause-steps : goal.returns-in_err-value-clause-steps
returns-in_err-value-clause-steps g c =
    let p = err_from_is_err_and c.from_residual.result c.from_residual.ensures.1 in
    rw (p.1, p.2) (line-err g.L.Lined.form c.exact_law.ensures c.args.text.now c.in-Some.content.now
    c.in-Some.rest.now _ (rw c.in-Some.is at c.line.ensures) c.in_err-value.ensures)

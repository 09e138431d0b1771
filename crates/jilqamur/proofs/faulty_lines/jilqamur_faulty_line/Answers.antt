use Rattle.jilqamur.proofs.Telling.{told}
use Rattle.jilqamur.proofs.faulty_lines.jilqamur_faulty_line.Goals as goal

pub returns-in-Ok-Some-clause-line : goal.returns-in-Ok-Some-clause-line
returns-in-Ok-Some-clause-line c = λ _ _. told c.args.text.now c.in-Some.text.now c.args.buffer.now
    c.copy_out.new.buffer c.as_bytes.result.now c.in-Ok-Some.field-0 c.in-Ok-Some.line c.copy_out.result
    c.copy_out.new.needed c.line_fault.result c.in-Ok-Some.ensures.line c.in-Ok-Some.field-0-is
    c.in-Some.ensures.some.0 c.as_bytes.ensures.value c.copy_out.ensures c.line_fault.ensures

use Rattle.std.proofs.Common.{◌↔◌, Bool, IsTrue, subst, sym}
use Rattle.sdp_formats_reader.specs.ReaderChoice.{attribute_line}
use Rattle.sdp_formats_reader.specs.Writable.{ComesBack}
use Rattle.sdp_formats_reader.specs.WholeLines.{IsLineOf}
use Rattle.sdp_formats_reader.proofs.Reading.{line_read, none_read}
use Rattle.sdp_formats_reader.proofs.line_read_back.says_attribute.Goals as goal

pub returns-in-Ok : goal.returns-in-Ok
returns-in-Ok c =
    subst (λ (b : Bool). IsTrue b ↔ IsLineOf attribute_line c.args.text.now (ComesBack c.args.attribute.now))
    (sym c.is_all.ensures)
    (line_read attribute_line c.exact_law.ensures c.args.text.now (ComesBack c.args.attribute.now) c.in-Ok.read
    c.in-Ok.rest.now c.comes_back.result c.in-Ok.ensures.steps c.comes_back.ensures)

pub returns-in-Err-Unfit : goal.returns-in-Err-Unfit
returns-in-Err-Unfit c = none_read attribute_line c.args.text.now (ComesBack c.args.attribute.now)
    c.in-Err-Unfit.field-0 c.in-Err-Unfit.field-0-is c.in-Err-Unfit.ensures.steps

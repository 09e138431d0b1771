use Rattle.std.proofs.Common.{sym, ◌∙◌, ap}
use Rattle.std.specs.Option.{option_map}
use Rattle.rtp_media_program.specs.declared.line.Line.TheVariants as line
use Rattle.rtp_media_program.proofs.LineCases.{line_of-empty, line_of-text, line_of-other}
use Rattle.rtp_media_program.proofs.line.Line.parse.Goals as goal

pub returns-then-is_empty : goal.returns-then-is_empty
returns-then-is_empty c = sym (line_of-empty c.args.bytes.now (sym c.is_empty.ensures ∙ c.if-is_empty.true))

pub returns-in_default : goal.returns-in_default
returns-in_default c = sym (line_of-other c.args.bytes.now (sym c.is_empty.ensures ∙ c.if-is_empty.false)
    c.in_default.ensures.cases.0)

pub returns-in-Ok-command_of : goal.returns-in-Ok-command_of
returns-in-Ok-command_of c =
    let text = line_of-text c.args.bytes.now (sym c.is_empty.ensures ∙ c.if-is_empty.false) c.in-Ok.ensures.cases.1 in
    let same = c.in-Ok.ensures.cases.0 in
    let words = c.new.ensures in
    let said = c.in-Ok-command_of.ensures in
    sym (text ∙ ap (option_map line.Command) (rw (words, same) at said))

pub returns-in-NotUnderstood : goal.returns-in-NotUnderstood
returns-in-NotUnderstood c =
    let text = line_of-text c.args.bytes.now (sym c.is_empty.ensures ∙ c.if-is_empty.false) c.in-Ok.ensures.cases.1 in
    let same = c.in-Ok.ensures.cases.0 in
    let words = c.new.ensures in
    let said = rw c.in-NotUnderstood.is at c.in-Err.ensures in
    sym (text ∙ ap (option_map line.Command) (rw (words, same) at said))

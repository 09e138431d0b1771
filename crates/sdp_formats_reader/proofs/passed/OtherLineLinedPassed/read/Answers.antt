use Rattle.std.proofs.Common.{ap, ◌∙◌, subst, sym}
use Rattle.sdp_formats_grammar.specs.Refusals.{Gives}
use Rattle.sdp_formats_reader.specs.Lines.{passed_if}
use Rattle.sdp_formats_reader.proofs.Passing.{other_read}
use Rattle.sdp_formats_reader.proofs.passed.OtherLineLinedPassed.read.Goals as goal

pub returns : goal.returns
returns c = subst (λ said. Gives c.passed_if.result said)
    (ap passed_if c.is_other.ensures ∙ sym (other_read c.args.content.now)) c.passed_if.ensures

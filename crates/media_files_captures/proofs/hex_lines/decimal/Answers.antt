use Rattle.std.proofs.Common.{sym, ◌∙◌, arith}
use Rattle.media_files_captures.proofs.HexLemmas.{digits-bad, decimal-is}
use Rattle.media_files_captures.proofs.hex_lines.decimal.Goals as goal

pub returns-in_err-number : goal.returns-in_err-number
returns-in_err-number c =
    rw c.from_residual.ensures
    (sym (digits-bad c.args.text.now c.loop-digit.digit-index c.loop-digit.number _ c.loop-digit-test.true
    (sym c.in_err-number.ensures))
    ∙ c.loop-digit.invariant ∙ sym (decimal-is c.args.text.now (λ z. omega (arith, z, c.loop-digit-test.true))))

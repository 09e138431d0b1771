use Rattle.std.proofs.Common.{sym, refl, ◌∙◌}
use Rattle.codec_headers.proofs.BitLemmas.{drop-none, zeros-first, zeros-none}
use Rattle.codec_headers.proofs.bits.Bits.pass_zero.Goals as goal

pub returns-in_default-clause-no : goal.returns-in_default-clause-no
returns-in_default-clause-no c = (zeros-none _ (sym c.self.view_is ∙ drop-none _ _ c.in_default.ensures.cases), refl)

pub returns-then-bit_of-ne0-clause-no : goal.returns-then-bit_of-ne0-clause-no
returns-then-bit_of-ne0-clause-no c = (
  zeros-first _ _ _ _ _ _ _ c.self.view_is c.in-Some.ensures.cases.0
      (c.bit_of.ensures.first _) c.if-bit_of-ne0.true,
  refl,
)

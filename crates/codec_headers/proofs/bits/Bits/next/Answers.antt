use Rattle.std.proofs.Common.{◌≡◌, [], sym, ◌∙◌}
use Rattle.codec_headers.proofs.BitLemmas.{drop-none}
use Rattle.codec_headers.proofs.bits.Bits.next.Goals as goal

pub returns-in_default-clause-none : goal.returns-in_default-clause-none
returns-in_default-clause-none c =
    let e : c.args.self.now ≡ [] = sym c.self.view_is ∙ drop-none _ _ c.in_default.ensures.cases in (e, e)

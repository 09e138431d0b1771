use Rattle.std.proofs.Common.{◌∷◌, List, drop, drop-cons, sym, ap, suc, ◌∙◌}
use Rattle.sdp_formats_data.specs.declared.media.MediaLine.{MediaLine}
use Rattle.sdp_formats_data.proofs.Preferred.{first_listed-at}
use Rattle.sdp_formats_data.proofs.whole_lookups.first_fingerprint.Goals as goal

pub returns-in-Some : goal.returns-in-Some
returns-in-Some c =
    let sections = c.args.sections.now in
    let i = c.loop-section.section-index in
    let here = c.section-item.result in
    let rest : List MediaLine = drop (suc i) sections in
    let cut = drop-cons sections i here c.loop-section-test.true
    ∙ ap (λ (m : MediaLine). m ∷ rest) (sym c.section-item.is) in
    first_listed-at here rest (drop i sections) sections c.in-Some.value.now cut c.loop-section.invariant
    c.in-Some.ensures

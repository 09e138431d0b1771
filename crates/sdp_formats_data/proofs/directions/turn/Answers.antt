use Rattle.std.proofs.Common.{sym, ap, ◌∙◌, set}
use Rattle.sdp_formats_data.specs.declared.media.MediaAttribute.{MediaAttribute}
use Rattle.sdp_formats_data.proofs.Turned.{directed-at, directed-nowhere}
use Rattle.sdp_formats_data.proofs.directions.turn.Goals as goal

pub returns-in-Some : goal.returns-in-Some
returns-in-Some c =
    let attrs = c.args.attributes.now in
    let place = c.in-Some.place in
    let put = c.replace.ensures.after ∙ c.from-turned.ensures in
    ap (λ (a : MediaAttribute). set attrs place a) put
    ∙ directed-at c.args.direction attrs place (sym c.in-Some.ensures.value)

pub returns-in_default : goal.returns-in_default
returns-in_default c =
    directed-nowhere c.args.direction c.args.attributes.now (sym c.in_default.ensures.value)

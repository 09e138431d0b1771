use Rattle.std.proofs.Common.{arith, ap, sym, ◌∙◌}
use Rattle.sdp_formats_data.specs.Consistency.{is_mapped}
use Rattle.sdp_formats_data.proofs.Tables.{more_mapped}
use Rattle.sdp_formats_data.proofs.mapped.is_known_mapped.Goals as goal

pub returns-clause-known : goal.returns-clause-known
returns-clause-known c =
    let attrs = c.args.attributes.now in
    let place = c.from-place.ensures ∙ c.get.ensures in
    let mapped = sym c.if-not-is_mapped.false ∙ c.is_mapped.ensures ∙ ap (is_mapped attrs) (sym place) in
    more_mapped attrs c.args.known.now c.from-place.result (omega (arith, place, c.get.type_inv)) mapped c.requires

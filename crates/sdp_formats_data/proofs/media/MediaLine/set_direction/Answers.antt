use Rattle.std.proofs.Common.{ap, ◌∙◌}
use Rattle.sdp_formats_data.specs.Lookups.{direction_of}
use Rattle.sdp_formats_data.specs.Directions.{directed}
use Rattle.sdp_formats_data.proofs.Turned.{direction_of-directed}
use Rattle.sdp_formats_data.proofs.media.MediaLine.set_direction.Goals as goal

pub returns-clause-direction : goal.returns-clause-direction
returns-clause-direction c =
    let d = c.args.direction in
    let attrs = c.args.self.now.attrs in
    let was = c.into_vec.ensures ∙ c.replace-attributes.ensures.value in
    let now = c.of.ensures ∙ c.turned.ensures ∙ ap (directed d) was in
    ap direction_of now ∙ direction_of-directed d attrs c.requires

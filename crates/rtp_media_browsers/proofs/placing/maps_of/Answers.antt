use Rattle.std.proofs.Common.{◌∙◌, ap, filter, rules}
use Rattle.std.proofs.lemmas.Fn.{filter_same}
use Rattle.rtp_media_browsers.specs.Places.{is_map}
use Rattle.rtp_media_browsers.proofs.placing.maps_of.Goals as goal

pub returns : goal.returns
returns c =
    filter_same _ is_map _ (λ attribute b f w. search rules) _ _ c.retain.ensures.filtered
    ∙ ap (filter is_map) (c.into_vec-maps.ensures ∙ c.in_ok-clone_all.ensures ∙ c.as_slice.ensures)

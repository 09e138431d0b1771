use Rattle.std.proofs.Common.{◌∙◌, ap, filter, rules}
use Rattle.std.proofs.lemmas.Fn.{filter_same}
use Rattle.rtp_media_browsers.specs.Following.{is_of_type}
use Rattle.rtp_media_browsers.proofs.following.type_lines.Goals as goal

pub returns : goal.returns
returns c =
    filter_same _ is_of_type _ (λ attribute b f w. search rules) _ _ c.retain.ensures.filtered
    ∙ ap (filter is_of_type) (c.into_vec-lines.ensures ∙ c.in_ok-clone_all.ensures ∙ c.as_slice.ensures)

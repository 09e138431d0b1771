use Rattle.std.proofs.Common.{◌∙◌, ap, filter, rules}
use Rattle.std.proofs.lemmas.Fn.{filter_same}
use Rattle.rtp_media_browsers.specs.Lines.{stays_in_session}
use Rattle.rtp_media_browsers.proofs.kept_lines.staying.Goals as goal

pub returns : goal.returns
returns c =
    filter_same _ stays_in_session _ (λ attribute b f w. search rules) _ _ c.retain.ensures.filtered
    ∙ ap (filter stays_in_session) (c.into_vec-kept.ensures ∙ c.in_ok-clone_all.ensures ∙ c.as_slice.ensures)

use Rattle.std.proofs.Common.{◌∙◌, rules}
use Rattle.std.proofs.lemmas.Fn.{filter_same}
use Rattle.rtp_media_browsers.specs.Lines.{stays}
use Rattle.rtp_media_browsers.proofs.kept_lines.kept_attributes.Goals as goal

pub returns : goal.returns
returns c =
    c.of.ensures
    ∙ filter_same _ (stays c.args.closed) _ (λ attribute b f w. search rules) _ _ c.retain.ensures.filtered

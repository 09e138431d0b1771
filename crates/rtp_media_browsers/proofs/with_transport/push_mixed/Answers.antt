use Rattle.std.proofs.Common.{◌∙◌, ◌++◌, ◌∷◌, [], ap, sym, Bool, List, ℕ}
use Rattle.sdp_formats_data.specs.declared.session.SessionAttribute.TheVariants.{Unused}
use Rattle.rtp_media_browsers.specs.ForBrowsers.{mixed_line}
use Rattle.rtp_media_browsers.proofs.with_transport.push_mixed.Goals as goal

pub returns-in_ok-push : goal.returns-in_ok-push
returns-in_ok-push c =
    let old = c.args.attributes.now in
    c.in_ok-push.ensures.ok
    ∙ ap (λ (text : List ℕ). old ++ Unused text ∷ []) c.in_ok-text.ensures
    ∙ ap (λ (b : Bool). old ++ mixed_line b) (sym c.if-mixed.true)

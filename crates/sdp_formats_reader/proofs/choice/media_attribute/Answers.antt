use Rattle.std.proofs.Common.{Ok, ap, refl, subst, sym, ◌∙◌}
use Rattle.sdp_formats_grammar.specs.Form.{any_text, made}
use Rattle.sdp_formats_grammar.specs.Refusals.{Gives}
use Rattle.sdp_formats_reader.specs.AttributesChoice.{media_attribute}
use Rattle.sdp_formats_reader.specs.Kinds.{media_kinds}
use Rattle.sdp_formats_data.specs.declared.media.MediaAttribute.TheVariants.{Unused}
use Rattle.sdp_formats_reader.proofs.Choosing.{chosen, passed-on}
use Rattle.sdp_formats_reader.proofs.choice.media_attribute.Goals as goal

pub returns-in-Some : goal.returns-in-Some
unfolding media_attribute
returns-in-Some c = chosen media_kinds (made Unused any_text) c.args.text.now c.known_attribute.result
    c.in-Some.attribute refl c.known_attribute.ensures (sym c.in_ok-attribute.ensures ∙ ap Ok c.in-Some.is)

pub returns-in-None : goal.returns-in-None
unfolding media_attribute
returns-in-None c = subst (Gives c.unused.result) (sym (passed-on media_kinds (made Unused any_text) c.args.text.now
    c.known_attribute.result refl c.known_attribute.ensures (sym c.in_ok-attribute.ensures ∙ ap Ok c.in-None.is)))
    c.unused.ensures

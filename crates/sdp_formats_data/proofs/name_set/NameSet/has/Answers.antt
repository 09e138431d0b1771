use Rattle.std.proofs.Common.{◌∙◌}
use Rattle.std.specs.List.{list_any}
use Rattle.sdp_formats_data.specs.WholeTexts.{is_name}
use Rattle.sdp_formats_data.proofs.name_set.NameSet.has.Goals as goal

pub returns : goal.returns
returns c = c.contains.ensures ∙ c.self.invariant.has c.as_str.result
    ∙ (λ i. list_any (is_name (c.as_str.ensures.text i)) (c.self.view_is i))

use Rattle.std.proofs.Common.{◌≡◌, drop}
use Rattle.sdp_formats_data.specs.Lookups.{first_of}
use Rattle.sdp_formats_data.specs.WholeTexts.{group_in}
use Rattle.sdp_formats_data.proofs.whole_text.first_group.Given as goal

-- the attributes so far are no groups
abbrev pub invariant-loop-attribute : goal.invariant-loop-attribute
invariant-loop-attribute l =
    first_of group_in (drop l.attribute-index l.attributes) ≡ first_of group_in l.fn.attributes

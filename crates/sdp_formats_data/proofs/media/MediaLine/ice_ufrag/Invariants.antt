use Rattle.std.proofs.Common.{◌≡◌, drop}
use Rattle.sdp_formats_data.specs.Sections.{ice_ufrag_in}
use Rattle.sdp_formats_data.specs.Lookups.{first_of}
use Rattle.sdp_formats_data.proofs.media.MediaLine.ice_ufrag.Given as goal

-- the attributes so far say nothing
abbrev pub invariant-loop-attribute : goal.invariant-loop-attribute
invariant-loop-attribute l =
    first_of ice_ufrag_in (drop l.attribute-index l.attributes) ≡ first_of ice_ufrag_in l.fn.self.attrs

use Rattle.std.proofs.Common.{◌≡◌, drop}
use Rattle.sdp_formats_data.specs.Lookups.{first_of, msid_in}
use Rattle.sdp_formats_data.proofs.media.MediaLine.msid.Given as goal

-- the attributes so far say nothing
abbrev pub invariant-loop-attribute : goal.invariant-loop-attribute
invariant-loop-attribute l =
    first_of msid_in (drop l.attribute-index l.attributes) ≡ first_of msid_in l.fn.self.attrs

use Rattle.std.proofs.Common.{◌≡◌, drop}
use Rattle.sdp_formats_data.specs.Lookups.{first_of}
use Rattle.sdp_formats_data.specs.Wholes.{bundle_in}
use Rattle.sdp_formats_data.proofs.session.Sdp.bundle_mids.Given as goal

-- the attributes so far name no bundle
abbrev pub invariant-loop-attribute : goal.invariant-loop-attribute
invariant-loop-attribute l =
    first_of bundle_in (drop l.attribute-index l.attributes) ≡ first_of bundle_in l.fn.self.session.attrs

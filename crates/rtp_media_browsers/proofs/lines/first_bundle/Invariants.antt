use Rattle.std.proofs.Common.{◌≡◌, drop}
use Rattle.sdp_formats_data.specs.Lookups.{first_of}
use Rattle.rtp_media_browsers.specs.Lines.{bundle_in}
use Rattle.rtp_media_browsers.proofs.lines.first_bundle.Given as goal

-- no attribute so far is one: those that are left decide
abbrev pub invariant-loop-attribute : goal.invariant-loop-attribute
invariant-loop-attribute l =
    first_of bundle_in (drop l.attribute-index l.attributes) ≡ first_of bundle_in l.fn.attributes

use Rattle.std.proofs.Common.{◌≡◌, drop}
use Rattle.sdp_formats_data.specs.Lookups.{direction_of}
use Rattle.sdp_formats_data.proofs.media.MediaLine.direction.Given as goal

-- the attributes so far say nothing
abbrev pub invariant-loop-attribute : goal.invariant-loop-attribute
invariant-loop-attribute l =
    direction_of (drop l.attribute-index l.attributes) ≡ direction_of l.fn.self.attrs

use Rattle.std.proofs.Common.{◌≡◌, drop}
use Rattle.sdp_formats_data.specs.Sections.{sctp_init_in}
use Rattle.sdp_formats_data.specs.Lookups.{first_of}
use Rattle.sdp_formats_data.proofs.media.MediaLine.sctp_init.Given as goal

-- the attributes so far say nothing
abbrev pub invariant-loop-attribute : goal.invariant-loop-attribute
invariant-loop-attribute l =
    first_of sctp_init_in (drop l.attribute-index l.attributes) ≡ first_of sctp_init_in l.fn.self.attrs

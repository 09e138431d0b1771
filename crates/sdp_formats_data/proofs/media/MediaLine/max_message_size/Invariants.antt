use Rattle.std.proofs.Common.{◌≡◌, drop}
use Rattle.sdp_formats_data.specs.Sections.{max_message_size_in}
use Rattle.sdp_formats_data.specs.Lookups.{first_of}
use Rattle.sdp_formats_data.proofs.media.MediaLine.max_message_size.Given as goal

-- the attributes so far say nothing
abbrev pub invariant-loop-attribute : goal.invariant-loop-attribute
invariant-loop-attribute l =
    first_of max_message_size_in (drop l.attribute-index l.attributes) ≡ first_of max_message_size_in l.fn.self.attrs

use Rattle.std.proofs.Common.{◌≡◌, drop}
use Rattle.sdp_formats_data.specs.Transport.{section_creds}
use Rattle.sdp_formats_data.specs.Lookups.{first_of}
use Rattle.sdp_formats_data.proofs.whole_lookups.first_creds.Given as goal

-- the sections so far say nothing
abbrev pub invariant-loop-section : goal.invariant-loop-section
invariant-loop-section l = first_of section_creds (drop l.section-index l.sections)
    ≡ first_of section_creds l.fn.sections

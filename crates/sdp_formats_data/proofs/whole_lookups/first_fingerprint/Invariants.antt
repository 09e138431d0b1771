use Rattle.std.proofs.Common.{◌≡◌, drop, map}
use Rattle.sdp_formats_data.specs.Transport.{first_listed, section_prints}
use Rattle.sdp_formats_data.proofs.whole_lookups.first_fingerprint.Given as goal

-- the sections so far have none
abbrev pub invariant-loop-section : goal.invariant-loop-section
invariant-loop-section l = first_listed (map section_prints (drop l.section-index l.sections))
    ≡ first_listed (map section_prints l.fn.sections)

use Rattle.std.proofs.Common.{◌≡◌, drop}
use Rattle.sdp_formats_data.specs.Lookups.{first_of}
use Rattle.rtp_media_browsers.specs.Refusals.{outside_in}
use Rattle.rtp_media_browsers.proofs.refusals.first_outside.Given as goal

-- no section so far is refused: those that are left decide
abbrev pub invariant-loop-section : goal.invariant-loop-section
invariant-loop-section l = first_of (outside_in l.bundle) (drop l.section-index l.sections)
    ≡ first_of (outside_in l.fn.bundle) l.fn.sections

use Rattle.std.proofs.Common.{◌≡◌, drop}
use Rattle.sdp_formats_data.specs.Lookups.{first_of}
use Rattle.rtp_media_browsers.specs.Refusals.{keys_in}
use Rattle.rtp_media_browsers.proofs.refusals.first_with_keys.Given as goal

-- no section so far is refused: those that are left decide
abbrev pub invariant-loop-section : goal.invariant-loop-section
invariant-loop-section l = first_of (keys_in l.session) (drop l.section-index l.sections)
    ≡ first_of (keys_in l.fn.session) l.fn.sections

use Rattle.std.proofs.Common.{◌≡◌, drop}
use Rattle.rtp_media_browsers.specs.Following.{section_named}
use Rattle.rtp_media_browsers.proofs.following.section_named.Given as goal

-- none so far has the name: the rest decides
abbrev pub invariant-loop-section : goal.invariant-loop-section
invariant-loop-section l =
    section_named (drop l.section-index l.sections) l.mid ≡ section_named l.fn.sections l.fn.mid

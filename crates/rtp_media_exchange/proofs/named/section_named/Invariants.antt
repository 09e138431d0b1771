use Rattle.std.proofs.Common.{◌≡◌, drop}
use Rattle.rtp_media_sections.specs.Agreement.{section_of}
use Rattle.rtp_media_exchange.proofs.named.section_named.Given as goal

-- none so far has the name: the rest decides
abbrev pub invariant-loop-section : goal.invariant-loop-section
invariant-loop-section l = section_of (drop l.section-index l.sections) l.mid ≡ section_of l.sections l.mid

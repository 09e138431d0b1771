use Rattle.std.proofs.Common.{◌≡◌, ◌++◌, drop}
use Rattle.rtp_media_exchange.specs.Offers.{offered_sections}
use Rattle.rtp_media_exchange.proofs.offered.offered_sections.Given as goal

-- the sections so far, and the rest
abbrev pub invariant-loop-section : goal.invariant-loop-section
invariant-loop-section l =
    l.offer.items ++ offered_sections l.exts l.config.rows (drop l.section-index l.wanted)
    ≡ offered_sections l.exts l.config.rows l.wanted

use Rattle.std.proofs.Common.{◌≡◌, ◌++◌, drop, map}
use Rattle.rtp_media_exchange.proofs.print.mids_of.Given as goal

-- the names so far, and those of the rest
abbrev pub invariant-loop-section : goal.invariant-loop-section
invariant-loop-section l =
    l.mids.items ++ map (λ s. s.mid) (drop l.section-index l.sections) ≡ map (λ s. s.mid) l.sections

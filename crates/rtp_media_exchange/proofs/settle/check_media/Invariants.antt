use Rattle.std.proofs.Common.{◌≡◌, drop}
use Rattle.std.specs.Prelude.{find, not}
use Rattle.rtp_media_exchange.proofs.settle.check_media.Given as goal

-- the sections so far are media: the rest decides
abbrev pub invariant-loop-section : goal.invariant-loop-section
invariant-loop-section l =
    find (λ s. not s.is_media) (drop l.section-index l.sections) ≡ find (λ s. not s.is_media) l.sections

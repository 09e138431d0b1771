use Rattle.std.proofs.Common.{◌≡◌, ◌++◌, drop, map}
use Rattle.rtp_media_sections.specs.Agreement.{with_text}
use Rattle.rtp_media_exchange.proofs.exchange.by_text.with_texts.Given as goal

-- the sections so far, and those that are left
abbrev pub invariant-loop-section : goal.invariant-loop-section
invariant-loop-section l =
    l.all.items ++ map (with_text l.own l.sections) (drop l.section-index l.agreed)
    ≡ map (with_text l.fn.own l.fn.sections) l.fn.agreed

use Rattle.std.proofs.Common.{◌≡◌, drop, find}
use Rattle.rtp_media_sections.specs.Agreement.{is_text_of}
use Rattle.rtp_media_sections.proofs.agreement.by_text.section_for.Given as goal

-- none so far is that of the agreed one: the rest decides
abbrev pub invariant-loop-section : goal.invariant-loop-section
invariant-loop-section l =
    find (is_text_of l.agreed) (drop l.section-index l.sections) ≡ find (is_text_of l.agreed) l.sections

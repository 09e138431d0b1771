use Rattle.std.proofs.Common.{◌≡◌, ◌++◌, drop, filter}
use Rattle.rtp_media_sections.specs.Extensions.{answered_extmaps, is_answered}
use Rattle.rtp_media_sections.proofs.extmaps.answered_extmaps.Given as goal

-- those so far, and those answered of the rest, are all
abbrev pub invariant-loop-entry : goal.invariant-loop-entry
invariant-loop-entry l = l.answered.items ++ filter (is_answered l.exts) (drop l.entry-index l.offered)
    ≡ answered_extmaps l.exts l.offered

use Rattle.std.proofs.Common.{◌≡◌, length, ◌++◌}
use Rattle.std.specs.Option.{option_map}
use Rattle.rtp_media_program.specs.Sections.{sections_then_slash}
use Rattle.rtp_media_program.proofs.sections.sections_before_slash.Given as goal

-- the sections so far, and those of the words that are left, are those of all words
abbrev pub invariant-loop-items : goal.invariant-loop-items
invariant-loop-items l = option_map (λ more. (l.items.items ++ more.0, more.1)) (sections_then_slash l.rest)
    ≡ sections_then_slash l.fn.words

abbrev pub decreases-loop-items : goal.decreases-loop-items
decreases-loop-items l = length l.rest

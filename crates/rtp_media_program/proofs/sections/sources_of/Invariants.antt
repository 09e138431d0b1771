use Rattle.std.proofs.Common.{◌≡◌, length}
use Rattle.std.specs.Option.{option_copied}
use Rattle.rtp_media_program.specs.Words.{comma_parts, parts_in, each_of}
use Rattle.rtp_media_program.specs.Sections.{source_of}
use Rattle.rtp_media_program.proofs.Each.{with_front}
use Rattle.rtp_media_program.proofs.sections.sources_of.Given as goal

-- the sources so far, and those of the parts that are left, are those of the word
abbrev pub invariant-loop-rest : goal.invariant-loop-rest
invariant-loop-rest l = with_front l.items.items (each_of source_of (parts_in (option_copied l.rest)))
    ≡ each_of source_of (comma_parts l.fn.word)

abbrev pub decreases-loop-rest : goal.decreases-loop-rest
decreases-loop-rest l = length (parts_in (option_copied l.rest))

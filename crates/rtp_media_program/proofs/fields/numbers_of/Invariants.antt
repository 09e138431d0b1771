use Rattle.std.proofs.Common.{◌≡◌, length}
use Rattle.std.specs.Option.{option_copied}
use Rattle.rtp_media_program.specs.Words.{number_below, numbers_of, parts_in, each_of}
use Rattle.rtp_media_program.proofs.Each.{with_front}
use Rattle.rtp_media_program.proofs.fields.numbers_of.Given as goal

-- the numbers so far, and those of the parts that are left, are those of the word
abbrev pub invariant-loop-rest : goal.invariant-loop-rest
invariant-loop-rest l = with_front l.numbers.items (each_of (number_below 256) (parts_in (option_copied l.rest)))
    ≡ numbers_of l.fn.word

abbrev pub decreases-loop-rest : goal.decreases-loop-rest
decreases-loop-rest l = length (parts_in (option_copied l.rest))

use Rattle.std.proofs.Common.{◌≡◌, length}
use Rattle.std.specs.Option.{option_copied}
use Rattle.words_and_replies.specs.Bytes.{bytes_of, joined_bytes, parts_in}
use Rattle.words_and_replies.proofs.Parts.{with_front}
use Rattle.words_and_replies.proofs.bytes.decoded.Given as goal

-- the bytes so far, and those of the parts that are left, are those of the word
abbrev pub invariant-loop-rest : goal.invariant-loop-rest
invariant-loop-rest l = with_front l.bytes.items (joined_bytes (parts_in (option_copied l.rest)))
    ≡ bytes_of l.fn.word

abbrev pub decreases-loop-rest : goal.decreases-loop-rest
decreases-loop-rest l = length (parts_in (option_copied l.rest))

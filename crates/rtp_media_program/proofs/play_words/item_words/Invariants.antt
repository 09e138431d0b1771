use Rattle.std.proofs.Common.{◌≡◌, length}
use Rattle.rtp_media_program.specs.Words.{each_of}
use Rattle.rtp_media_program.specs.PlayLines.{item_of}
use Rattle.rtp_media_program.proofs.Each.{with_front}
use Rattle.rtp_media_program.proofs.play_words.item_words.Given as goal

-- the items so far, and those of the words that are left, are those of all words
abbrev pub invariant-loop-word : goal.invariant-loop-word
invariant-loop-word l = with_front l.items.items (each_of item_of l.rest) ≡ each_of item_of l.fn.words

abbrev pub decreases-loop-word : goal.decreases-loop-word
decreases-loop-word l = length l.rest

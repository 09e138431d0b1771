use Rattle.std.proofs.Common.{◌≡◌, length}
use denote.Shadow.{shadow}
use denote.Text.{Utf8}
use Rattle.words_and_replies.specs.Bytes.{without_stars}
use Rattle.words_and_replies.proofs.bytes.unstarred.Given as goal

-- no star was passed over that isn't at the end of the word
abbrev pub invariant-loop-front : goal.invariant-loop-front
invariant-loop-front l = shadow (Utf8 l.left) × (without_stars l.left ≡ without_stars l.fn.word)

abbrev pub decreases-loop-front : goal.decreases-loop-front
decreases-loop-front l = length l.left

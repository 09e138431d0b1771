use Rattle.std.proofs.Common.{map, ◌≡◌, ℕ, List, ◌++◌, length, Some}
use Rattle.std.specs.Fmt.{HasWritten, IsPlainFormatter}
use Rattle.sdp_formats_grammar.specs.Joined.{outputs_behind}
use Rattle.sdp_formats_grammar.proofs.joined.JoinedDisplay.fmt.Given as goal

-- what was written since the loop began, and what is left to write
abbrev pub invariant-loop-item : goal.invariant-loop-item
invariant-loop-item g l = (l.separator ≡ l.self.1.now) × ((whole : List ℕ) → IsPlainFormatter l.initial.f
    → outputs_behind l.separator (map g.T.Display.output l.initial.left) ≡ Some whole
    → (written left : List ℕ) × HasWritten g.W.Write.write_str_gives l.initial.f written l.f
    × (outputs_behind l.separator (map g.T.Display.output l.left) ≡ Some left) × (whole ≡ written ++ left))

abbrev pub decreases-loop-item : goal.decreases-loop-item
decreases-loop-item g l = length l.left

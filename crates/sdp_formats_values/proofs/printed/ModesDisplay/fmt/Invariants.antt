use Rattle.std.proofs.Common.{◌≡◌, ◌++◌, ℕ, List, length}
use Rattle.std.specs.Fmt.{HasWritten, IsPlainFormatter}
use Rattle.sdp_formats_values.specs.PrintedParameters.{modes_text, modes_left, modes_among}
use Rattle.sdp_formats_values.proofs.printed.ModesDisplay.fmt.Given as goal

-- what was written, and what is left to write
abbrev pub invariant-loop-mode : goal.invariant-loop-mode
invariant-loop-mode g l = IsPlainFormatter l.initial.f
    → (written : List ℕ) × HasWritten g.W.Write.write_str_gives l.initial.f written l.f
    × (modes_text l.self.0 ≡ written ++ modes_left l.is_first (modes_among l.self.0 l.left))

abbrev pub decreases-loop-mode : goal.decreases-loop-mode
decreases-loop-mode g l = length l.left

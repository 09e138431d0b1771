use Rattle.std.proofs.Common.{map, ◌≡◌, ℕ, List, ◌++◌, length, codes}
use Rattle.std.specs.Fmt.{HasWritten, IsPlainFormatter}
use Rattle.sdp_formats_grammar.specs.Joined.{each_behind, octet_text}
use Rattle.sdp_formats_grammar.proofs.joined.FingerprintFmtDisplay.fmt.Given as goal

-- what was written since the loop began, and what is left to write
abbrev pub invariant-loop-byte : goal.invariant-loop-byte
invariant-loop-byte g l = IsPlainFormatter l.initial.f
    → (written : List ℕ) × HasWritten g.W.Write.write_str_gives l.initial.f written l.f
    × (each_behind (codes ":") (map octet_text l.initial.left)
    ≡ written ++ each_behind (codes ":") (map octet_text l.left))

abbrev pub decreases-loop-byte : goal.decreases-loop-byte
decreases-loop-byte g l = length l.left

use Rattle.std.proofs.Common.{◌≡◌, ◌++◌, ℕ, List, drop}
use Rattle.std.specs.Fmt.{HasWritten, IsPlainFormatter}
use Rattle.sdp_formats_rows.specs.Texts.{format_text}
use Rattle.sdp_formats_rows.proofs.Parts.{texts_left, texts_of}
use Rattle.sdp_formats_rows.proofs.printing.FormatParamsDisplay.fmt.Given as goal

-- what was written, and what is left to write
abbrev pub invariant-loop-param : goal.invariant-loop-param
invariant-loop-param g l = IsPlainFormatter l.initial.f
    → (written : List ℕ) × HasWritten g.W.Write.write_str_gives l.initial.f written l.f
    × (format_text l.self ≡ written ++ texts_left l.is_first (texts_of (drop l.param-index l.param-items)))

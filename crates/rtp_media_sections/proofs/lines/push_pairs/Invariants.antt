use Rattle.std.proofs.Common.{◌≡◌, ◌++◌, drop, map}
use Rattle.rtp_media_sections.specs.Lines.{pair_line}
use Rattle.rtp_media_sections.proofs.lines.push_pairs.Given as goal

-- the lines so far, and those of the rest
abbrev pub invariant-loop-pair : goal.invariant-loop-pair
invariant-loop-pair l =
    l.attrs.items ++ map pair_line (drop l.pair-index l.pairs) ≡ l.fn.attrs.items ++ map pair_line l.pairs

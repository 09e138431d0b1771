use Rattle.std.proofs.Common.{◌≡◌, ◌++◌, map, drop}
use Rattle.media_files.specs.Wav.{joined}
use Rattle.media_files.proofs.wav.joined.Given as goal

-- what is written, and what is left
abbrev pub invariant-loop-packet : goal.invariant-loop-packet
invariant-loop-packet l = l.out.items ++ joined (map (λ p. p.now) (drop l.packet-index l.packets))
    ≡ joined (map (λ p. p.now) l.packets)

use Rattle.std.proofs.Common.{◌≡◌, ◌++◌, drop}
use Rattle.rtp_media_sections.specs.Repairs.{repairs_in}
use Rattle.rtp_media_sections.proofs.repairs.repairs_in.Given as goal

-- the pairs so far, and those of the rest
abbrev pub invariant-loop-source : goal.invariant-loop-source
invariant-loop-source l = l.pairs.items ++ repairs_in (drop l.source-index l.sources) ≡ repairs_in l.sources

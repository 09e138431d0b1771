use Rattle.std.proofs.Common.{◌≡◌, ◌++◌, drop, map}
use Rattle.rtp_media_sections.specs.Offered.{repair_source}
use Rattle.rtp_media_sections.proofs.offered.push_repairing.Given as goal

-- the sources so far, and those of the rest
abbrev pub invariant-loop-pair : goal.invariant-loop-pair
invariant-loop-pair l =
    l.sources.items ++ map repair_source (drop l.pair-index l.repairs)
    ≡ l.fn.sources.items ++ map repair_source l.repairs

use Rattle.std.proofs.Common.{◌≡◌, ◌++◌, drop, map}
use Rattle.rtp_media_exchange.specs.Answering.{read_back}
use Rattle.rtp_media_exchange.proofs.read_back.all_read_back.Given as goal

-- the sections so far, and those of the rest
abbrev pub invariant-loop-section : goal.invariant-loop-section
invariant-loop-section l =
    l.back.items ++ map read_back (drop l.section-index l.sections) ≡ map read_back l.sections

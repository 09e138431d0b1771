use Rattle.std.proofs.Common.{◌≡◌, ◌++◌, drop}
use Rattle.std.specs.List.{filter_map}
use Rattle.rtp_media_program.specs.Exchanging.{pair_of}
use Rattle.rtp_media_program.proofs.exchanging.repairs_in.Given as goal

-- the pairs so far, and those of the sources that are left, are those of all sources
abbrev pub invariant-loop-source : goal.invariant-loop-source
invariant-loop-source l =
    l.pairs.items ++ filter_map pair_of (drop l.source-index l.sources) ≡ filter_map pair_of l.fn.sources

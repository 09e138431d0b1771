use Rattle.std.proofs.Common.{◌≡◌, ◌++◌, drop, map}
use Rattle.rtp_media_sections.specs.Offered.{plain_source}
use Rattle.rtp_media_sections.proofs.offered.plain_sources.Given as goal

-- the sources so far, and those of the rest
abbrev pub invariant-loop-ssrc : goal.invariant-loop-ssrc
invariant-loop-ssrc l = l.sources.items ++ map plain_source (drop l.ssrc-index l.ssrcs) ≡ map plain_source l.ssrcs

use Rattle.std.proofs.Common.{◌≡◌, ◌++◌, drop, filter, map}
use Rattle.std.specs.Option.{is_none}
use Rattle.rtp_media_sections.specs.Lines.{ssrcs_of}
use Rattle.rtp_media_sections.proofs.agreement.ssrcs_of.Given as goal

-- the SSRCs so far, and those of the rest
abbrev pub invariant-loop-source : goal.invariant-loop-source
invariant-loop-source l =
    l.ssrcs.items
    ++ map (λ source. source.ssrc) (filter (λ source. is_none source.repairs) (drop l.source-index l.source-items))
    ≡ ssrcs_of l.section

use Rattle.std.proofs.Common.{drop}
use Rattle.rtp_media_sections.specs.PrintableSections.{IsLowPair}
use Rattle.sdp_formats_rounds.specs.Members.{IsEach}
use Rattle.rtp_media_exchange.proofs.widths.pass_pairs.Given as goal

-- if it holds of the rest, it holds of all
abbrev pub invariant-loop-pair : goal.invariant-loop-pair
invariant-loop-pair l = IsEach IsLowPair (drop l.pair-index l.pairs) → IsEach IsLowPair l.pairs

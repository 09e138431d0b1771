use Rattle.std.proofs.Common.{drop}
use Rattle.sdp_formats_rounds.specs.Members.{IsEach}
use Rattle.rtp_media_exchange.specs.Answering.{HasWidths}
use Rattle.rtp_media_exchange.proofs.widths.pass_sections.Given as goal

-- if it holds of the rest, it holds of all
abbrev pub invariant-loop-section : goal.invariant-loop-section
invariant-loop-section l = IsEach HasWidths (drop l.section-index l.sections) → IsEach HasWidths l.sections

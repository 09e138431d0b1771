use Rattle.std.proofs.Common.{drop}
use Rattle.sdp_formats_rounds.specs.Members.{IsEach}
use Rattle.sdp_formats_rounds.specs.Ranges.{IsSized}
use Rattle.rtp_media_exchange.proofs.widths.pass_rows.Given as goal

-- if it holds of the rest, it holds of all
abbrev pub invariant-loop-row : goal.invariant-loop-row
invariant-loop-row l = IsEach IsSized (drop l.row-index l.rows) → IsEach IsSized l.rows

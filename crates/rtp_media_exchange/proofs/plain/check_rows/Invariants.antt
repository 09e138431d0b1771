use Rattle.std.proofs.Common.{◌≡◌, drop}
use Rattle.rtp_media_exchange.specs.Refusals.{row_refusal}
use Rattle.rtp_media_exchange.proofs.plain.check_rows.Given as goal

-- the rows so far are plain: the rest decides
abbrev pub invariant-loop-place : goal.invariant-loop-place
invariant-loop-place l = row_refusal l.place (drop l.place l.rows) ≡ row_refusal 0 l.rows

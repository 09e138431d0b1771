use Rattle.std.proofs.Common.{◌≡◌, ◌++◌, drop, map}
use Rattle.sdp_formats_laws.specs.RowsBack.{unlocked}
use Rattle.rtp_media_exchange.proofs.read_back.all_unlocked.Given as goal

-- the rows so far, and those of the rest
abbrev pub invariant-loop-row : goal.invariant-loop-row
invariant-loop-row l = l.fresh.items ++ map unlocked (drop l.row-index l.rows) ≡ map unlocked l.rows

use Rattle.std.proofs.Common.{◌≡◌, drop}
use Rattle.std.specs.Prelude.{find}
use Rattle.rtp_media_exchange.specs.Refusals.{lists_none}
use Rattle.rtp_media_exchange.proofs.offered.check_listed.Given as goal

-- the sections so far list a row: the rest decides
abbrev pub invariant-loop-section : goal.invariant-loop-section
invariant-loop-section l =
    find (lists_none l.config.rows) (drop l.section-index l.sections) ≡ find (lists_none l.config.rows) l.sections

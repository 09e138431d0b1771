use Rattle.std.proofs.Common.{◌≡◌, drop}
use Rattle.std.specs.Prelude.{find}
use Rattle.rtp_media_exchange.specs.Refusals.{shares_none}
use Rattle.rtp_media_exchange.proofs.settle.check_accepted.Given as goal

-- the sections so far have a row: the rest decides
abbrev pub invariant-loop-section : goal.invariant-loop-section
invariant-loop-section l =
    find (shares_none l.config.rows) (drop l.section-index l.sections) ≡ find (shares_none l.config.rows) l.sections

use Rattle.std.proofs.Common.{◌≡◌, ◌++◌, drop, filter, map}
use Rattle.rtp_media_exchange.specs.Refusals.{answers_none}
use Rattle.rtp_media_browsers.proofs.in_common.names_none.Given as goal

-- the names so far, and those of the sections that are left
abbrev pub invariant-loop-section : goal.invariant-loop-section
invariant-loop-section l =
    l.names.items ++ map (λ s. s.mid) (filter (answers_none l.config.rows) (drop l.section-index l.sections))
    ≡ map (λ s. s.mid) (filter (answers_none l.fn.config.rows) l.fn.sections)

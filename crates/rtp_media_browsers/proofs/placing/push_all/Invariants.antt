use Rattle.std.proofs.Common.{◌≡◌, ◌++◌, drop}
use Rattle.rtp_media_browsers.proofs.placing.push_all.Given as goal

-- the copies so far, and the sections that are left
abbrev pub invariant-loop-section : goal.invariant-loop-section
invariant-loop-section l = l.all ++ drop l.section-index l.sections ≡ l.fn.all ++ l.fn.sections

use Rattle.std.proofs.Common.{◌≡◌, ◌++◌, drop, filter}
use Rattle.rtp_media_browsers.specs.Following.{is_new}
use Rattle.rtp_media_browsers.proofs.following.push_new.Given as goal

-- the new ones so far, and those of the sections that are left
abbrev pub invariant-loop-section : goal.invariant-loop-section
invariant-loop-section l =
    l.all ++ filter (is_new l.olds) (drop l.section-index l.sections)
    ≡ l.fn.all ++ filter (is_new l.fn.olds) l.fn.sections

use Rattle.std.proofs.Common.{◌≡◌, ◌++◌, drop, map}
use Rattle.rtp_media_browsers.specs.Following.{current}
use Rattle.rtp_media_browsers.proofs.following.currents.Given as goal

-- the sections so far, and those that are left
abbrev pub invariant-loop-old : goal.invariant-loop-old
invariant-loop-old l =
    l.all ++ map (current l.sections) (drop l.old-index l.olds) ≡ map (current l.fn.sections) l.fn.olds

use Rattle.std.proofs.Common.{◌≡◌, drop}
use Rattle.rtp_media_browsers.specs.Refusals.{begin_with}
use Rattle.rtp_media_browsers.proofs.refusals.begin_with.Given as goal

-- the names so far are the same: the rest decides
abbrev pub invariant-loop-number : goal.invariant-loop-number
invariant-loop-number l =
    begin_with (drop l.number l.names) (drop l.number l.sections) ≡ begin_with l.fn.names l.fn.sections

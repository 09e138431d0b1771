use Rattle.std.proofs.Common.{◌≡◌, drop}
use Rattle.rtp_media_browsers.specs.Asking.{named_from}
use Rattle.rtp_media_browsers.proofs.asking.named_at.Given as goal

-- no request so far is it: the rest decides
abbrev pub invariant-loop-number : goal.invariant-loop-number
invariant-loop-number l =
    named_from l.mid l.number (drop l.number l.asked) ≡ named_from l.fn.mid 0 l.fn.asked

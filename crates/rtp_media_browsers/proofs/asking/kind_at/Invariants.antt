use Rattle.std.proofs.Common.{◌≡◌, drop}
use Rattle.rtp_media_browsers.specs.Asking.{kind_from}
use Rattle.rtp_media_browsers.proofs.asking.kind_at.Given as goal

-- no request so far is it: the rest decides
abbrev pub invariant-loop-number : goal.invariant-loop-number
invariant-loop-number l =
    kind_from l.is_audio l.number (drop l.number l.asked) ≡ kind_from l.fn.is_audio 0 l.fn.asked

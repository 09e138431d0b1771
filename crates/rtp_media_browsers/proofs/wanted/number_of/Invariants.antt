use Rattle.std.proofs.Common.{◌≡◌, drop}
use Rattle.rtp_media_browsers.specs.Wanted.{number_from}
use Rattle.rtp_media_browsers.proofs.wanted.number_of.Given as goal

-- no place so far has the name: the rest decides
abbrev pub invariant-loop-number : goal.invariant-loop-number
invariant-loop-number l =
    number_from l.mid l.number (drop l.number l.places) ≡ number_from l.fn.mid 0 l.fn.places

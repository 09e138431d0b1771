use Rattle.std.proofs.Common.{◌≡◌, drop}
use Rattle.rtp_media_browsers.specs.Asking.{first_unrepaired}
use Rattle.rtp_media_browsers.proofs.repairing.test_repairs.Given as goal

-- no request so far is refused: those that are left decide
abbrev pub invariant-loop-number : goal.invariant-loop-number
invariant-loop-number l =
    first_unrepaired (drop l.number l.requests) (drop l.number l.sections)
    ≡ first_unrepaired l.fn.requests l.fn.sections

use Rattle.std.proofs.Common.{◌≡◌, ◌++◌, drop, map}
use Rattle.rtp_media_browsers.proofs.telling.copies.Given as goal

-- the copies so far, and the candidates that are left
abbrev pub invariant-loop-candidate : goal.invariant-loop-candidate
invariant-loop-candidate l =
    l.copies ++ map (λ c. c.now) (drop l.candidate-index l.candidates) ≡ map (λ c. c.now) l.fn.candidates

use Rattle.std.proofs.Common.{◌≡◌, [], drop, take}
use Rattle.rtp_media_exchange.specs.Refusals.{first_repeated}
use Rattle.rtp_media_exchange.proofs.plain.first_repeated.Given as goal

-- the types so far are distinct: the rest decides
abbrev pub invariant-loop-place : goal.invariant-loop-place
invariant-loop-place l =
    first_repeated (take l.place l.types) (drop l.place l.types) ≡ first_repeated [] l.types

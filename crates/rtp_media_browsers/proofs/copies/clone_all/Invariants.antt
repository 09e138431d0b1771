use Rattle.std.proofs.Common.{◌≡◌, ◌++◌, drop}
use Rattle.rtp_media_browsers.proofs.copies.clone_all.Given as goal

-- the copies so far and the values that are left
abbrev pub invariant-loop-place : goal.invariant-loop-place
invariant-loop-place l = l.copies.items ++ drop l.place-index l.places ≡ l.fn.places

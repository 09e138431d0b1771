use Rattle.std.proofs.Common.{◌≡◌, ◌++◌, filter}
use Rattle.rtp_media_browsers.specs.Known.{is_known}
use Rattle.rtp_media_browsers.proofs.known.push_those.Given as goal

-- the pairs so far, and those that are left
abbrev pub invariant-loop-pair : goal.invariant-loop-pair
invariant-loop-pair l =
    l.known.items ++ filter is_known l.pair-iterator.rest.items ≡ l.fn.known.items ++ filter is_known l.fn.said.items

use Rattle.std.proofs.Common.{◌≡◌, ◌++◌, drop, map}
use Rattle.rtp_media_browsers.specs.Received.{only_sent}
use Rattle.rtp_media_browsers.proofs.received.all_only_sent.Given as goal

-- the lines so far, and those that are left
abbrev pub invariant-loop-attribute : goal.invariant-loop-attribute
invariant-loop-attribute l =
    l.all ++ map only_sent (drop l.attribute-index l.attributes) ≡ map only_sent l.fn.attributes

use Rattle.std.proofs.Common.{◌≡◌, ◌++◌}
use Rattle.rtp_media_browsers.specs.InCommon.{without_named}
use Rattle.rtp_media_browsers.proofs.in_common.without_named.Given as goal

-- the requests so far, and those that are left
abbrev pub invariant-loop-request : goal.invariant-loop-request
invariant-loop-request l =
    l.left.items ++ without_named l.names l.rest l.request-iterator.rest.items
    ≡ without_named l.fn.names l.fn.places l.fn.requests.items

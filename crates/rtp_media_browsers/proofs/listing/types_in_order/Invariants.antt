use Rattle.std.proofs.Common.{◌≡◌, ◌++◌, drop, filter}
use Rattle.rtp_media_browsers.specs.Listing.{is_listed}
use Rattle.rtp_media_browsers.proofs.listing.types_in_order.Given as goal

-- the types so far, and those that are left
abbrev pub invariant-loop-pt : goal.invariant-loop-pt
invariant-loop-pt l =
    l.ordered ++ filter (is_listed l.types) (drop l.pt-index l.order) ≡ filter (is_listed l.fn.types) l.fn.order

use Rattle.std.proofs.Common.{◌≡◌, ◌++◌, filter}
use Rattle.rtp_media_browsers.specs.Listing.{is_of_source, is_other}
use Rattle.rtp_media_browsers.proofs.listing.parted.Given as goal

-- the lines so far, and those that are left
abbrev pub invariant-loop-attribute : goal.invariant-loop-attribute
invariant-loop-attribute l =
    (l.others.items ++ filter is_other l.attribute-iterator.rest.items ≡ filter is_other l.fn.attributes.items)
    × (l.sources.items ++ filter is_of_source l.attribute-iterator.rest.items
    ≡ filter is_of_source l.fn.attributes.items)

use Rattle.std.proofs.Common.{◌≡◌, ◌++◌}
use Rattle.std.specs.List.{flat_map}
use Rattle.rtp_media_browsers.specs.ForBrowsers.{attribute_with_transport}
use Rattle.rtp_media_browsers.proofs.with_transport.attributes_with_transport.Given as goal

-- the lines so far, and those of the attributes that are left
abbrev pub invariant-loop-attribute : goal.invariant-loop-attribute
invariant-loop-attribute l =
    l.with_transport ++ flat_map (attribute_with_transport l.transport) l.attribute-iterator.rest.items
    ≡ flat_map (attribute_with_transport l.fn.transport) l.fn.attributes.items

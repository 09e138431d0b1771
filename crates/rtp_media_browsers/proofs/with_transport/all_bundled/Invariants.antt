use Rattle.std.proofs.Common.{◌≡◌, ◌++◌, drop, map}
use Rattle.rtp_media_browsers.specs.ForBrowsers.{bundled_as}
use Rattle.rtp_media_browsers.proofs.with_transport.all_bundled.Given as goal

-- the attributes so far, and those that are left
abbrev pub invariant-loop-attribute : goal.invariant-loop-attribute
invariant-loop-attribute l =
    l.bundled ++ map (bundled_as l.names) (drop l.attribute-index l.attributes)
    ≡ map (bundled_as l.fn.names) l.fn.attributes

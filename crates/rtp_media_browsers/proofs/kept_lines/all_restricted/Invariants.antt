use Rattle.std.proofs.Common.{◌≡◌, ◌++◌, drop, map}
use Rattle.rtp_media_browsers.specs.ForEnds.{restricted}
use Rattle.rtp_media_browsers.proofs.kept_lines.all_restricted.Given as goal

-- the attributes so far, and those that are left
abbrev pub invariant-loop-attribute : goal.invariant-loop-attribute
invariant-loop-attribute l =
    l.kept ++ map (restricted l.names) (drop l.attribute-index l.attributes)
    ≡ map (restricted l.fn.names) l.fn.attributes

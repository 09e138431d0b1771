use Rattle.std.proofs.Common.{◌≡◌, ◌++◌, drop, map}
use Rattle.rtp_media_browsers.specs.Identities.{named_line}
use Rattle.rtp_media_browsers.proofs.identifying.named_lines.Given as goal

-- the lines so far, and those of the attributes that are left
abbrev pub invariant-loop-attribute : goal.invariant-loop-attribute
invariant-loop-attribute l =
    l.named ++ map (named_line l.cname) (drop l.attribute-index l.attributes)
    ≡ map (named_line l.fn.cname) l.fn.attributes

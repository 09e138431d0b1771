use Rattle.std.proofs.Common.{◌≡◌, ◌+◌, ◌≤◌, count_by, drop}
use Rattle.rtp_media_browsers.specs.Lines.{is_bundle}
use Rattle.rtp_media_browsers.proofs.lines.count_bundles.Given as goal

-- the groups so far, and those of the attributes that are left
abbrev pub invariant-loop-attribute : goal.invariant-loop-attribute
invariant-loop-attribute l =
    (l.count + count_by is_bundle (drop l.attribute-index l.attributes) ≡ count_by is_bundle l.fn.attributes)
    × (l.count ≤ l.attribute-index)

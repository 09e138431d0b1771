use Rattle.std.proofs.Common.{◌≡◌, ◌++◌, drop}
use Rattle.std.specs.List.{flat_map}
use Rattle.sdp_formats_data.specs.Sections.{rid_in}
use Rattle.sdp_formats_data.proofs.media.MediaLine.rids.Given as goal

-- the names so far and those of the attributes that are left
abbrev pub invariant-loop-attribute : goal.invariant-loop-attribute
invariant-loop-attribute l =
    l.rids.items ++ flat_map rid_in (drop l.attribute-index l.attributes) ≡ flat_map rid_in l.fn.self.attrs

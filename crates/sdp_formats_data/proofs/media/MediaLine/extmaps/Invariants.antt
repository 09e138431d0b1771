use Rattle.std.proofs.Common.{◌≡◌, ◌++◌, drop}
use Rattle.std.specs.List.{flat_map}
use Rattle.sdp_formats_data.specs.Sections.{extmap_in, extmaps_view}
use Rattle.sdp_formats_data.proofs.media.MediaLine.extmaps.Given as goal

-- the extensions so far and those of the attributes that are left
abbrev pub invariant-loop-attribute : goal.invariant-loop-attribute
invariant-loop-attribute l =
    extmaps_view l.extmaps.items ++ flat_map extmap_in (drop l.attribute-index l.attributes)
    ≡ flat_map extmap_in l.fn.self.attrs

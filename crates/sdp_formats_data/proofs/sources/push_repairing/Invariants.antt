use Rattle.std.proofs.Common.{◌≡◌, fold, drop}
use Rattle.std.specs.List.{filter_map}
use Rattle.sdp_formats_data.specs.Distinct.{with_new}
use Rattle.sdp_formats_data.specs.Seen.{AreSeen}
use Rattle.sdp_formats_data.specs.Sources.{repairing_in}
use Rattle.sdp_formats_data.proofs.sources.push_repairing.Given as goal

-- the sources so far with those of the attributes that are left
abbrev pub invariant-loop-attribute : goal.invariant-loop-attribute
invariant-loop-attribute l = record {
  left : fold with_new l.sources.items (filter_map repairing_in (drop l.attribute-index l.attributes))
      ≡ fold with_new l.fn.sources.items (filter_map repairing_in l.attributes);
  seen : AreSeen l.seen l.sources.items;
}

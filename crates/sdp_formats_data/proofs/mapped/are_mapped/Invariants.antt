use Rattle.std.proofs.Common.{◌≡◌, drop}
use Rattle.std.specs.List.{list_all}
use Rattle.sdp_formats_data.specs.Consistency.{is_mapped}
use Rattle.sdp_formats_data.specs.KnownTypes.{KnowsMapped}
use Rattle.sdp_formats_data.proofs.mapped.are_mapped.Given as goal

-- the types so far are mapped, and so are those that are known
abbrev pub invariant-loop-pt : goal.invariant-loop-pt
invariant-loop-pt l =
    (list_all (is_mapped l.attributes) (drop l.pt-index l.pts) ≡ list_all (is_mapped l.attributes) l.pts)
    × KnowsMapped l.attributes l.known

use Rattle.std.proofs.Common.{◌≡◌, drop}
use Rattle.std.specs.List.{list_all}
use Rattle.sdp_formats_data.specs.Consistency.{values_agree}
use Rattle.sdp_formats_data.specs.KnownTypes.{KnowsApts}
use Rattle.sdp_formats_data.proofs.retransmitted.all_agree.Given as goal

-- the parameters so far agree, and what is known holds
abbrev pub invariant-loop-param : goal.invariant-loop-param
invariant-loop-param l =
    (list_all (values_agree l.attributes l.pt) (drop l.param-index l.values)
    ≡ list_all (values_agree l.attributes l.pt) l.values)
    × KnowsApts l.attributes l.known

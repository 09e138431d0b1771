use Rattle.std.proofs.Common.{◌≡◌, drop}
use Rattle.std.specs.List.{list_all}
use Rattle.sdp_formats_data.specs.Consistency.{gives_apt}
use Rattle.sdp_formats_data.specs.KnownTypes.{KnowsApts}
use Rattle.sdp_formats_data.proofs.retransmitted.apts_agree.Given as goal

-- the lines so far agree, and what is known holds
abbrev pub invariant-loop-attribute : goal.invariant-loop-attribute
invariant-loop-attribute l =
    (list_all (gives_apt l.attributes) (drop l.attribute-index l.attributes)
    ≡ list_all (gives_apt l.attributes) l.attributes)
    × KnowsApts l.attributes l.known

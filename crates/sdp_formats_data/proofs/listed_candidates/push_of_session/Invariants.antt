use Rattle.std.proofs.Common.{◌≡◌, ◌++◌, drop}
use Rattle.std.specs.List.{filter_map}
use Rattle.sdp_formats_data.specs.ListedCandidates.{borrowed, session_candidate}
use Rattle.sdp_formats_data.proofs.listed_candidates.push_of_session.Given as goal

-- the candidates so far and those of the attributes that are left
abbrev pub invariant-loop-attribute : goal.invariant-loop-attribute
invariant-loop-attribute l =
    borrowed l.candidates.items ++ filter_map session_candidate (drop l.attribute-index l.attributes)
    ≡ borrowed l.fn.candidates.items ++ filter_map session_candidate l.attributes

use Rattle.std.proofs.Common.{List, [], drop}
use Rattle.std.specs.List.{FoldsTo}
use Rattle.sdp_formats_values.specs.declared.candidate.Candidate.{Candidate}
use Rattle.sdp_formats_data.specs.Candidates.{Adds}
use Rattle.sdp_formats_data.specs.ListedCandidates.{borrowed}
use Rattle.sdp_formats_data.specs.Keys.{HasKeysOf}
use Rattle.sdp_formats_data.proofs.session.Sdp.ice_candidates.Given as goal

-- what the candidates that are left come to, all come to; and the keys are of those so far
abbrev pub invariant-loop-candidate : goal.invariant-loop-candidate
invariant-loop-candidate l = ((last : List Candidate)
    → FoldsTo Adds (borrowed l.once.items) (borrowed (drop l.candidate-index l.candidate-items)) last
    → FoldsTo Adds [] (borrowed l.candidate-items) last)
    × HasKeysOf l.keys (borrowed l.once.items)

-- The ICE candidates of an SDP, each once.
use Rattle.std.specs.Prelude.{◌≡◌, ◌++◌, ◌⊎◌, List, [], ◌∷◌}
use Rattle.std.specs.List.{FoldsTo, flat_map}
use Rattle.sdp_formats_values.specs.declared.candidate.Candidate.{Candidate}
use Rattle.sdp_formats_data.specs.ListedCandidates.{section_candidates, session_candidates}
use Rattle.sdp_formats_data.specs.declared.session.Sdp.{Sdp}

-- All ICE candidates of an SDP, session-level ones first.
abbrev pub candidates_of : Sdp → List Candidate
candidates_of sdp = session_candidates sdp.session ++ flat_map section_candidates sdp.media_lines

-- It is one of them.
abbrev pub IsAmong : Candidate → List Candidate → Type 0
IsAmong candidate [] = ⊥
IsAmong candidate (other ∷ others) = (other ≡ candidate) ⊎ IsAmong candidate others

-- One more candidate is appended, unless it is already in the list.
abbrev pub Adds : List Candidate → Candidate → List Candidate → Type 0
Adds seen candidate now = (IsAmong candidate seen × (now ≡ seen))
    ⊎ ((IsAmong candidate seen → ⊥) × (now ≡ seen ++ candidate ∷ []))

-- Each candidate once, in the order of their first occurrence.
abbrev pub AreEachOnce : List Candidate → List Candidate → Type 0
AreEachOnce candidates once = FoldsTo Adds [] candidates once

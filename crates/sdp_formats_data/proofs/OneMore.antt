-- One candidate more.
use Rattle.std.proofs.Common.{◌≡◌, List, ◌∷◌, sym, subst, Bor}
use Rattle.std.specs.List.{FoldsTo}
use Rattle.sdp_formats_values.specs.declared.candidate.Candidate.{Candidate}
use Rattle.sdp_formats_data.specs.Candidates.{Adds}
use Rattle.sdp_formats_data.specs.ListedCandidates.{borrowed}

pub one_more : (seen now last : List Candidate) (left rest : List (Bor Candidate)) (next : Bor Candidate)
    → left ≡ next ∷ rest → Adds seen next.now now → FoldsTo Adds now (borrowed rest) last
    → FoldsTo Adds seen (borrowed left) last
one_more seen now last left rest next e adds h =
    subst (λ (l : List (Bor Candidate)). FoldsTo Adds seen (borrowed l) last) (sym e) (now, adds, h)

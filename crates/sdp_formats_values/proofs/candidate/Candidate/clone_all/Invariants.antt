use Rattle.std.proofs.Common.{◌≡◌, ◌++◌, drop}
use Rattle.sdp_formats_values.proofs.candidate.Candidate.clone_all.Given as goal

-- the copies so far and the values that are left
abbrev pub invariant-loop-candidate : goal.invariant-loop-candidate
invariant-loop-candidate l = l.copies.items ++ drop l.candidate-index l.candidates ≡ l.fn.candidates

use Rattle.std.proofs.Common.{length}
use denote.Text.{Utf8}
use denote.Shadow.{shadow}
use Rattle.sdp_formats_faults.proofs.Walks.{Passed}
use Rattle.sdp_formats_faults.proofs.sections.first_faulty.Given as goal

-- the sections so far are consistent, and lead to what is left
abbrev pub invariant-loop-fault : goal.invariant-loop-fault
invariant-loop-fault l = shadow (Utf8 l.left) × Passed l.fn.text l.left

abbrev pub decreases-loop-fault : goal.decreases-loop-fault
decreases-loop-fault l = length l.left

use Rattle.std.proofs.Common.{drop}
use Rattle.sdp_formats_data.specs.NameSets.{IsSetOf}
use Rattle.sdp_formats_data.proofs.name_set.NameSet.of.Given as goal

-- the set is of the names from this place on
abbrev pub invariant-loop-place : goal.invariant-loop-place
invariant-loop-place l = IsSetOf (drop l.place l.listed) l.set l.apart

use Rattle.std.proofs.Common.{Option, drop}
use Rattle.std.specs.Fn.{CalledAt}
use Rattle.sdp_formats_rounds.specs.Finding.{Finds}
use Rattle.sdp_formats_rows.specs.Rows.{Row}
use Rattle.sdp_formats_rounds.proofs.config.finding.find.Given as goal

-- what the rows that are left come to, all come to
abbrev pub invariant-loop-row : goal.invariant-loop-row
invariant-loop-row g l = goal.F-IsAlwaysCallable g l.f × ((found : Option Row)
    → Finds (CalledAt g.F.FnMut) l.f (drop l.row-index l.rows) found
    → Finds (CalledAt g.F.FnMut) l.fn.f l.fn.rows found)

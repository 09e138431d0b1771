use Rattle.std.proofs.Common.{[]}
use Rattle.std.specs.Prelude.{None}
use Rattle.rtp_media_schedules.specs.Hearing.{fresh}
use Rattle.rtp_media_forward_runs.proofs.FirstHop.{taken-are, taken-between}
use Rattle.rtp_media_forward_runs.proofs.over_hops.first_hop_law.Goals as goal

pub returns-clause-taken : goal.returns-clause-taken
returns-clause-taken c = λ holding first count xs fits sane.
    taken-are first count fits xs [] (fresh holding) tt sane

pub returns-clause-sent : goal.returns-clause-sent
returns-clause-sent c = λ first count xs sane. taken-between first count xs [] None sane

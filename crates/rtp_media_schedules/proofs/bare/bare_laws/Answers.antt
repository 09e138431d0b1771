use Rattle.std.proofs.Common.{sym}
use Rattle.rtp_media_schedules.proofs.ValuesAside.{exact-aside, heard-same, legal-aside}
use Rattle.rtp_media_schedules.proofs.bare.bare_laws.Goals as goal

pub returns-clause-same : goal.returns-clause-same
returns-clause-same c = λ format s events. sym (heard-same format s events)

pub returns-clause-legal : goal.returns-clause-legal
returns-clause-legal c = λ format holding first samples sender turns alike sent fits sane.
    legal-aside format holding first samples sender turns alike sent fits sane

pub returns-clause-exact : goal.returns-clause-exact
returns-clause-exact c = λ format holding first samples sender turns alike sent fits tame silent.
    exact-aside format holding first samples sender turns alike sent fits tame silent

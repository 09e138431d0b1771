use Rattle.rtp_media_forward_runs.proofs.ForwardedRuns.{exact-run, legal-run}
use Rattle.rtp_media_forward_runs.proofs.over_ends.forwarded_runs_law.Goals as goal

pub returns-clause-legal : goal.returns-clause-legal
returns-clause-legal c = λ e rx holding s own first parts schedule hears foreign sane.
    legal-run e rx holding s own first parts hears schedule foreign sane

pub returns-clause-exact : goal.returns-clause-exact
returns-clause-exact c = λ e rx holding s own first parts before hears foreign tame silent.
    exact-run e rx holding s own first parts hears before foreign tame silent

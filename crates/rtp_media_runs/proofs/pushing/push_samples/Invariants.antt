use Rattle.rtp_media_runs.proofs.Pushes.{IsPushed}
use Rattle.rtp_media_runs.proofs.pushing.push_samples.Given as goal

abbrev pub invariant-loop-sample : goal.invariant-loop-sample
invariant-loop-sample l = IsPushed l.initial.end l.tx l.samples l.sample-index l.end l.datagrams.items

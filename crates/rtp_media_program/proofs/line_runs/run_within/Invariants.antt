use Rattle.std.proofs.Common.{List, ℕ}
use Rattle.std.specs.Io.KnownBytes.{Consumes}
use Rattle.rtp_media_program.specs.Progress.{Progress}
use Rattle.rtp_media_program.proofs.line_runs.run_within.Given as goal

-- the reader has given the bytes seen so far, and the run has come so far
abbrev pub invariant-loop : goal.invariant-loop
invariant-loop g l =
    (seen : List ℕ) × Consumes (g.R.Read.remaining l.fn.reader) (g.R.Read.remaining l.reader) seen
    × Progress g.A.Respond.gives l.fn.responder (g.W.Write.contents l.fn.writer) seen l.responder
    (g.W.Write.contents l.writer) l.line l.status

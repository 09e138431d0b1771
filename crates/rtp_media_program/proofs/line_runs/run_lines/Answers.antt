use Rattle.std.proofs.KnownBytes.{Consumes-whole}
use Rattle.std.proofs.lemmas.Result.{IfOk-weaker}
use Rattle.rtp_media_program.proofs.line_runs.run_lines.Goals as goal

pub returns-clause-known : goal.returns-clause-known
returns-clause-known g c =
    IfOk-weaker c.run_within.result _ _ (λ status ran. Consumes-whole _ _ ran.0 _ ran.1.0 ran.1.1 ran.2)
    c.run_within.ensures.read

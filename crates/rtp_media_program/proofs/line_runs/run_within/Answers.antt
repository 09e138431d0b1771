use Rattle.std.proofs.Common.{[], arith}
use Rattle.std.proofs.KnownBytes.{Consumes-nil, Consumes-trans, Consumes-whole}
use Rattle.rtp_media_program.proofs.Steps.{Progress-start, Printed-kept}
use Rattle.rtp_media_program.proofs.Sent.{Consumes-none}
use Rattle.rtp_media_program.proofs.Stopping.{consumed-front, on_err, stopped-behind}
use Rattle.rtp_media_program.proofs.line_runs.run_within.Goals as goal

pub loop-init : goal.loop-init
loop-init g c = ([], Consumes-nil _, rw c.new-line.ensures (Progress-start g.A.Respond.gives _ _))

pub returns-then-count-eq0-clause-read : goal.returns-then-count-eq0-clause-read
returns-then-count-eq0-clause-read g c =
    let inv = c.loop.invariant in
    let gave = c.in-Ok.ensures.bytes in
    let ended = c.in_ok-status.ensures.ends _ _ _ inv.2 in
    let len = c.read.auto.buf in (
      inv.0,
      (Consumes-none _ _ _ _ _ _ c.if-count-eq0.true inv.1 gave.0, gave.1 c.if-count-eq0.true (omega arith)),
      Printed-kept g.A.Respond.gives _ _ _ _ _ _ _ ended c.flush.ensures.bytes,
    )

pub loop-preserved : goal.loop-preserved
loop-preserved g c =
    let inv = c.loop.invariant in
    let gave = c.in-Ok.ensures.bytes in
    let went = c.in_ok-status-2.ensures.goes_on _ _ _ inv.2 in
    (_, Consumes-trans _ _ _ _ _ inv.1 gave.0, went)

-- the input that is known is what was read up to its end
pub returns-in_err-status-clause-stopped : goal.returns-in_err-status-clause-stopped
returns-in_err-status-clause-stopped g c =
    let inv = c.loop.invariant in
    let gave = c.in-Ok.ensures.bytes in
    let len = c.read.auto.buf in
    on_err _ (Consumes-whole _ _ inv.0 _
    (Consumes-none _ _ _ _ _ _ c.if-count-eq0.true inv.1 gave.0) (gave.1 c.if-count-eq0.true (omega arith))
    (c.in_err-status.ensures.stopped _ _ _ inv.2))

pub returns-then-is_err-clause-stopped : goal.returns-then-is_err-clause-stopped
returns-then-is_err-clause-stopped g c =
    let inv = c.loop.invariant in
    let gave = c.in-Ok.ensures.bytes in
    let len = c.read.auto.buf in
    let ended = c.in_ok-status.ensures.ends _ _ _ inv.2 in
    Consumes-whole _ _ inv.0 _
    (Consumes-none _ _ _ _ _ _ c.if-count-eq0.true inv.1 gave.0) (gave.1 c.if-count-eq0.true (omega arith))
    (stopped-behind g.A.Respond.gives _ _ _ _ _ _ _ ended c.flush.ensures.bytes)

pub returns-in_err-status-2-clause-stopped : goal.returns-in_err-status-2-clause-stopped
returns-in_err-status-2-clause-stopped g c =
    let inv = c.loop.invariant in
    let gave = c.in-Ok.ensures.bytes in
    on_err _ (consumed-front _ _ _ _ (Consumes-trans _ _ _ _ _ inv.1 gave.0)
    (c.in_err-status-2.ensures.stopped _ _ _ inv.2))

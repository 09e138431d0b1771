use Rattle.std.proofs.Common.{inl, refl, ◌∙◌, Ok, Some}
use Rattle.payload_core_buffer.proofs.Stepping.{fewer}
use Rattle.payload_core_buffer.specs.Steps.{kept_in}
use Rattle.stream_recording.proofs.Taking.{ends-short, faults, fewer-held, hands-out, none-taken, silent, stops}
use Rattle.stream_recording.proofs.Taking.{whatever}
use Rattle.stream_recording.proofs.recording.take_due.Goals as goal

pub loop-buffer-init : goal.loop-buffer-init
loop-buffer-init g c = record {
  format = refl;
  holding = refl;
  taken = none-taken _ _ _ _;
}

pub returns-in_err-reserve-clause-short : goal.returns-in_err-reserve-clause-short
returns-in_err-reserve-clause-short g c =
    whatever c.from_residual.result (ends-short _ _ _ _ _ _ _ _ c.loop-buffer.invariant.taken
    c.in_err-reserve.ensures.items (inl refl))

pub returns-in-Ok-None-clause-taken : goal.returns-in-Ok-None-clause-taken
returns-in-Ok-None-clause-taken g c =
    silent _ _ _ c.loop-buffer.invariant.format _ _ _ _ _ _
    (rw c.in-Ok-None.field-0-is at c.in-Ok-None.ensures.pops.answers) c.loop-buffer.invariant.taken
    c.in_ok-reserve.ensures.items

pub loop-buffer-smaller-in-Continue-branch-2 : goal.loop-buffer-smaller-in-Continue-branch-2
loop-buffer-smaller-in-Continue-branch-2 g c =
    let d = g.D.Depacketizer in
    fewer (d.format c.loop-buffer.buffer.depacketizer) c.args.hold_back
    (kept_in (λ x. d.fragment x) c.loop-buffer.buffer) (kept_in (λ x. d.fragment x) c.unit_at.new.self)
    (Ok (Some c.in-Ok-Some.unit)) (rw c.in-Ok-Some.field-0-is at c.in-Ok-Some.ensures.pops.answers) (λ is. cc)

pub loop-buffer-preserved-in-Continue-branch-2 : goal.loop-buffer-preserved-in-Continue-branch-2
loop-buffer-preserved-in-Continue-branch-2 g c = record {
  format = c.in-Ok-Some.ensures.pops.same_format ∙ c.loop-buffer.invariant.format;
  holding = c.in-Ok-Some.ensures.pops.same_holding ∙ c.loop-buffer.invariant.holding;
  taken = hands-out _ _ _ c.loop-buffer.invariant.format _ _ _ _ _ _ _ c.in-Ok-Some.unit
      (rw c.in-Ok-Some.field-0-is at c.in-Ok-Some.ensures.pops.answers) c.loop-buffer.invariant.taken
      c.in_ok-reserve.ensures.items c.in_ok-push-in-Ok-Some.ensures.items;
}

pub returns-in-Memory-clause-short : goal.returns-in-Memory-clause-short
returns-in-Memory-clause-short g c =
    stops _ _ _ c.loop-buffer.invariant.format _ _ _ _ _ _ (rw c.in-Memory.is at c.in-Err.ensures.pops.answers)
    c.loop-buffer.invariant.taken c.in_ok-reserve.ensures.items

pub loop-buffer-smaller : goal.loop-buffer-smaller
loop-buffer-smaller g c =
    let d = g.D.Depacketizer in
    fewer-held (d.format c.loop-buffer.buffer.depacketizer) c.args.hold_back
    (kept_in (λ x. d.fragment x) c.loop-buffer.buffer) (kept_in (λ x. d.fragment x) c.unit_at.new.self)
    c.in-Err.error c.in-Err.ensures.pops.answers c.in_default.not-Memory

pub loop-buffer-preserved : goal.loop-buffer-preserved
loop-buffer-preserved g c = record {
  format = c.in-Err.ensures.pops.same_format ∙ c.loop-buffer.invariant.format;
  holding = c.in-Err.ensures.pops.same_holding ∙ c.loop-buffer.invariant.holding;
  taken = faults _ _ _ c.loop-buffer.invariant.format _ _ _ _ c.loop-buffer.recorded.items c.reserve.new.self.items
      c.push-in_default.new.self.items c.in-Err.error c.in-Err.ensures.pops.answers c.in_default.not-Memory
      c.loop-buffer.invariant.taken c.in_ok-reserve.ensures.items c.in_ok-push-in_default.ensures.items;
}

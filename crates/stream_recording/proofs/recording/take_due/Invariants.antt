use Rattle.std.proofs.Common.{◌≡◌, length}
use Rattle.payload_core_buffer.specs.Steps.{kept_in}
use Rattle.stream_recording.proofs.Taking.{TakenSo}
use Rattle.stream_recording.proofs.recording.take_due.Given as goal

-- what was taken so far
abbrev pub invariant-loop-buffer : goal.invariant-loop-buffer
invariant-loop-buffer g l =
    let format_of = g.D.Depacketizer.format in
    let fragment_of = g.D.Depacketizer.fragment in
    record {
      format : format_of l.buffer.depacketizer ≡ format_of l.initial.buffer.depacketizer;
      holding : l.buffer.holding ≡ l.initial.buffer.holding;
      taken : TakenSo (format_of l.initial.buffer.depacketizer) l.hold_back
          (kept_in (λ x. fragment_of x) l.initial.buffer)
          (kept_in (λ x. fragment_of x) l.buffer) l.initial.recorded.items l.recorded.items;
    }

abbrev pub decreases-loop-buffer : goal.decreases-loop-buffer
decreases-loop-buffer g l = length l.buffer.held

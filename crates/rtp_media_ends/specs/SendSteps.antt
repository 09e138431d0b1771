-- What a sample pushed at a stream of an end becomes.
use Rattle.std.specs.Prelude.{ℕ, List}
use Rattle.rtp_wire.specs.Time.{Time}
use Rattle.rtp_wire.specs.declared.values.ExtensionValues.{ExtensionValues}
use Rattle.rtp_media_streams.specs.SendSteps.{SendStep, send_step}
use Rattle.rtp_media_ends.specs.Ends.{EndState, sender_at, with_sender}
use Rattle.rtp_media_ends.specs.Stops.{SenderFails}

-- A sample pushed at the n-th stream; nothing else changes.
abbrev pub send_step_at : EndState → ℕ → Time → ExtensionValues → List ℕ → SendStep EndState
send_step_at e n time values bytes =
    let step = send_step (sender_at e n) time values bytes in record {
      before = e;
      refusal = step.refusal;
      datagrams = step.datagrams;
      next = with_sender e n step.next;
      Stopped = SenderFails e n;
    }

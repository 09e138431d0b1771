-- A receiving stream that is told what not to wait for.
use Rattle.std.specs.Prelude.{ℕ, if◌then◌else◌, None, Some}
use Rattle.payload_core_buffer.specs.Buffered.{is_done, packets_above}
use Rattle.rtp_media_schedules.specs.Hearing.{Stream}

-- The stream after it is done with all numbers up to this one: of its packets those above it stay, an open fragment is
-- given up, and the frame after the number is next.
abbrev pub passed_to : ℕ → Stream → Stream
passed_to number s = if is_done s.cutoff number then s else record {
  holding = s.holding;
  window = s.window;
  held = packets_above number s.held;
  cutoff = Some number;
  fragment = None;
}

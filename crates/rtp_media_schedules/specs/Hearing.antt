-- What a receiving stream, of any payload format, answers over a whole run of its own datagrams and polls.
use Rattle.std.specs.Prelude.{◌≡◌, ℕ, ◌-◌, Bool, if◌then◌else◌, List, [], ◌∷◌, drop}
use Rattle.std.specs.Prelude.{Option, None, Some, Result, Ok, Err}
use Rattle.payload_core_base.specs.Format.{Format, Fragment}
use Rattle.payload_core_base.specs.declared.error.PacketError.{PacketError}
use Rattle.payload_core_buffer.specs.Buffered.{Holding}
use Rattle.payload_core_buffer.specs.Buffered.{pushed}
use Rattle.payload_core_buffer.specs.Frames as frames
use Rattle.payload_core_buffer.specs.Frames.{due_frame, packets_between}
use Rattle.payload_core_buffer.specs.Packets.{Packet, packet_from}
use Rattle.payload_core_buffer.specs.Pops.{PopState, ReadsPart, pop_state}
use Rattle.payload_core_buffer.specs.Steps.{Answer, MediaUnit, answer_among, run_among}
use Rattle.payload_core_buffer.specs.declared.frame.Frame.{Frame}
use Rattle.payload_core_buffer.specs.declared.held.RtpMeta.{RtpMeta}
use Rattle.rtp_wire.specs.Replay.{Window, is_accepted, recorded_in, greatest_in}
use Rattle.rtp_wire.specs.Widening.{widened}
use Rattle.rtp_wire.specs.declared.values.ExtensionValues.{ExtensionValues}

-- What an accepted datagram gives besides its number: timestamp and marker bit (RFC 3550 5.1), header extension values
-- (RFC 8285), and payload.
pub record Content : Type 0 where
  pub time : ℕ
  pub marker : Bool
  pub values : ExtensionValues
  pub bytes : List ℕ

abbrev pub content_of : ℕ → Bool → ExtensionValues → List ℕ → Content
content_of time marker values bytes = record { time = time; marker = marker; values = values; bytes = bytes }

-- Its metadata, with this number.
abbrev pub meta_of : ℕ → Content → RtpMeta
meta_of number content = record {
  seq_no = number;
  time = content.time;
  marker = content.marker;
  ext_vals =
      content.values;
}

-- Its packet under a number.
abbrev pub packet_of : ℕ → Content → Packet
packet_of number content = packet_from (meta_of number content) content.bytes

-- What happens to a stream: one of its datagrams comes, with the low 16 bits of its number, or it is polled.
pub data Event : Type 0 where
  Comes : (low : ℕ) (content : Content) → Event
  Poll : Event

-- A receiving stream's state: its limits, the replay window, the packets held, the cutoff, and the fragment left open
-- by the packets handed out so far.
pub record Stream : Type 0 where
  pub holding : Holding
  pub window : Option Window
  pub held : List Packet
  pub cutoff : Option ℕ
  pub fragment : Fragment

-- A stream that heard nothing.
abbrev pub fresh : Holding → Stream
fresh holding = record { holding = holding; window = None; held = []; cutoff = None; fragment = None }

-- The full number that the low 16 bits stand for at this stream.
abbrev pub number_at : Stream → ℕ → ℕ
number_at s low = widened (greatest_in s.window) low

-- The stream after a datagram with this number: the window refuses it, or the buffer takes it.
abbrev pub taken_by : Stream → ℕ → Content → Stream
taken_by s number content =
    if is_accepted s.window number
    then record {
      holding = s.holding;
      window = Some (recorded_in s.window number);
      held = pushed s.holding.held s.cutoff s.held (packet_of number content);
      cutoff = s.cutoff;
      fragment = s.fragment;
    }
    else s

-- The places of the frame that a poll hands out.
unfoldable pub due : Format → Stream → Option Frame
due format s = due_frame format s.cutoff s.holding.hold_back s.held

-- The stream after a frame: everything up to its end is gone, whether the frame was read or refused.
abbrev pub stream_behind : Format → Stream → Option Frame → Stream
stream_behind format s None = s
stream_behind format s (Some frame) = record {
  holding = s.holding;
  window = s.window;
  held = drop frame.end s.held;
  cutoff = Some (frames.number_at s.held (frame.end - 1));
  fragment = (run_among format s.fragment s.held frame).fragment;
}

unfoldable pub polled : Format → Stream → Stream
polled format s = stream_behind format s (due format s)

unfoldable pub poll_answer : Format → Stream → Answer
poll_answer format s = answer_among format s.fragment s.held (due format s)

-- Memory ran out for a frame that is due: nothing changes but the open fragment, which is the one left by those packets
-- that were read.
pub record IsInterrupted (format : Format) (before after : Stream) : Type 0 where
  pub frame : Frame
  pub is_due : due format before ≡ Some frame
  pub stops : ReadsPart format before.fragment (packets_between before.held frame) after.fragment
  pub stays : after ≡ record before { fragment = after.fragment }

-- What a poll reads and changes of a stream, and the stream with other such things.
abbrev pub kept_of : Stream → PopState
kept_of s = pop_state s.held s.cutoff s.fragment

abbrev pub with_kept : Stream → PopState → Stream
with_kept s k = record {
  holding = s.holding;
  window = s.window;
  held = k.held;
  cutoff = k.cutoff;
  fragment = k.fragment;
}

-- One step on own events.
abbrev pub heard_step : Format → Stream → Event → Stream
heard_step format s (Comes low content) = taken_by s (number_at s low) content
heard_step format s Poll = polled format s

-- The answers to the polls of a list of own events.
abbrev pub heard : Format → Stream → List Event → List Answer
heard format s [] = []
heard format s (Comes low content ∷ es) = heard format (taken_by s (number_at s low) content) es
heard format s (Poll ∷ es) = poll_answer format s ∷ heard format (polled format s) es

-- The stream after a list of own events.
abbrev pub after_events : Format → Stream → List Event → Stream
after_events format s [] = s
after_events format s (e ∷ es) = after_events format (heard_step format s e) es

-- The answers other than None.
abbrev pub handed_out : List Answer → List (Result MediaUnit PacketError)
handed_out [] = []
handed_out (Ok None ∷ os) = handed_out os
handed_out (Ok (Some u) ∷ os) = Ok u ∷ handed_out os
handed_out (Err e ∷ os) = Err e ∷ handed_out os

-- There is a last answer, and it is None.
abbrev pub EndsSilent : List Answer → Type 0
EndsSilent [] = ⊥
EndsSilent (o ∷ []) = o ≡ Ok None
EndsSilent (o ∷ p ∷ os) = EndsSilent (p ∷ os)

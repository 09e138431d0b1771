-- What the program answers to the commands of streams, from the definitions of their calls.
use Rattle.std.specs.Prelude.{false, ℕ, ◌≡◌, ◌⊎◌, ◌||◌, Bool, IsTrue, if◌then◌else◌, List, [], ◌∷◌, ◌++◌, length, map}
use Rattle.std.specs.Prelude.{Option, Some, None, Result, Ok, Err}
use Rattle.std.specs.Option.{option_map}
use Rattle.rtp_wire.specs.Name.{name_of}
use Rattle.rtp_wire.specs.Time.{Time}
use Rattle.rtp_wire.specs.Values.{absent}
use Rattle.rtp_wire.specs.declared.values.ExtensionValues.{ExtensionValues}
use Rattle.payload_core_buffer.specs.Steps.{MediaUnit}
use Rattle.payload_core_buffer.specs.Buffered.{holding_of, is_valid_capacity}
use Rattle.rtp_media_streams.specs.Polls.{PollResult, poll_result}
use Rattle.rtp_media_streams.specs.Sending.{sent_datagrams, after_sample, refusal_of_sample, skipped_to}
use Rattle.rtp_media_streams.specs.Missing.{missing}
use Rattle.rtp_media_streams.specs.Limits.{kept_within, passed_empty}
use Rattle.rtp_media_streams.specs.Passing.{passed_to}
use Rattle.rtp_media_streams.specs.Receiving.{polled_receiver, with_stream}
use Rattle.rtp_media_streams.specs.Repairing.{repair, with_repair}
use Rattle.rtp_media_streams.specs.declared.errors.RepairError.{RepairError}
use Rattle.rtp_media_streams.specs.declared.errors.SampleError.{SampleError}
use Rattle.rtp_media_ends.specs.declared.OpenError.{OpenError}
use Rattle.rtp_media_ends.specs.declared.StreamParams.{StreamParams}
use Rattle.rtp_media_stream_table.specs.declared.received.Received.{Received}
use Rattle.rtp_media_stream_table.specs.declared.received.Received.TheVariants as received
use Rattle.rtp_media_ends.specs.Ends.{EndState, agreed_red, refusal_of_open_sender}
use Rattle.rtp_media_ends.specs.Ends.{refusal_of_open_receiver, after_open_sender, after_open_receiver}
use Rattle.rtp_media_ends.specs.Ends.{with_sender, without_stream}
use Rattle.rtp_media_ends.specs.Ends.{is_receiver_at, is_sender_at, with_receiver, sender_at, receiver_at}
use Rattle.rtp_media_ends.specs.Params.{is_sound_params}
use Rattle.rtp_media_ends.specs.Stops.{PollStops, SenderFails}
use Rattle.rtp_media_ends.specs.EndArrivals.{verdict_of, after_datagram}
use Rattle.rtp_media_program.specs.declared.command.Command.{Command}
use Rattle.rtp_media_program.specs.declared.command.Command.TheVariants.{Send, Open, Sample, Receive, Poll, Repair}
use Rattle.rtp_media_program.specs.declared.command.Command.TheVariants.{AskStream, BoundStream}
use Rattle.rtp_media_program.specs.declared.command.Ask.{Ask}
use Rattle.rtp_media_program.specs.declared.command.Ask.TheVariants.{Close, Missing, Next}
use Rattle.rtp_media_program.specs.declared.command.Bound.{Bound}
use Rattle.rtp_media_program.specs.declared.command.Bound.TheVariants.{Empty, Keep, Pass, Skip}
use Rattle.rtp_media_program.specs.declared.command.SendCommand.{SendCommand}
use Rattle.rtp_media_program.specs.declared.command.OpenCommand.{OpenCommand}
use Rattle.rtp_media_program.specs.declared.command.SampleCommand.{SampleCommand}
use Rattle.rtp_media_program.specs.declared.command.ReceiveCommand.{ReceiveCommand}
use Rattle.rtp_media_program.specs.declared.command.PollCommand.{PollCommand}
use Rattle.rtp_media_program.specs.declared.command.RepairCommand.{RepairCommand}
use Rattle.rtp_media_program.specs.declared.reply.Reply.{Reply}
use Rattle.rtp_media_program.specs.declared.reply.Reply.TheVariants as reply
use Rattle.rtp_media_program.specs.Replies.{memory}
use Rattle.rtp_media_program.specs.EndErrorNames.{fault_name, open_error_name, repair_error_name, sample_error_name}

-- An end, and what is printed.
pub record EndStep : Type 0 where
  pub end : EndState
  pub replies : List Reply

-- The end is this one, and one line is printed.
abbrev pub prints : EndState → Reply → EndStep
prints e reply = record { end = e; replies = reply ∷ [] }

-- The stream parameters that a command gives.
abbrev pub params_of : SendCommand → StreamParams
params_of c = record {
  first = c.first;
  mtu = c.mtu;
  limit = c.limit;
  red = c.distances;
  picture_id = c.picture_id;
  for_browsers = false;
}

-- A command's conditions: distances are only allowed for a row with a RED payload type.
abbrev pub is_sound_send : EndState → SendCommand → Bool
is_sound_send e c = is_sound_params (agreed_red e (name_of 16 c.mid) c.pt) (params_of c)

abbrev pub sender_step : EndState → SendCommand → Option OpenError → EndStep
sender_step e c (Some error) = prints e (reply.Refused (open_error_name error))
sender_step e c None = prints (after_open_sender e (name_of 16 c.mid) c.ssrc c.pt (params_of c))
    (reply.Sender (length e.streams))

-- send E MID SSRC PT FIRST MTU LIMIT DISTANCES PICTUREID
abbrev pub send_step : EndState → SendCommand → EndStep
send_step e c =
    if is_sound_send e c then sender_step e c (refusal_of_open_sender e (name_of 16 c.mid) c.ssrc c.pt)
    else prints e reply.ErrorLine

abbrev pub receiver_step : EndState → OpenCommand → Option OpenError → EndStep
receiver_step e c (Some error) = prints e (reply.Refused (open_error_name error))
receiver_step e c None = prints (after_open_receiver e (name_of 16 c.mid) c.ssrc c.pt
    (holding_of c.hold_back c.held))
    (reply.Receiver (length e.streams))

-- open E MID SSRC PT HOLDBACK [HELD]
abbrev pub open_step : EndState → OpenCommand → EndStep
open_step e c =
    if is_valid_capacity c.held then receiver_step e c (refusal_of_open_receiver e (name_of 16 c.mid) c.ssrc c.pt)
    else prints e reply.ErrorLine

-- A command's time, at the clock rate of its stream's row.
abbrev pub time_of : EndState → SampleCommand → Time
time_of e c = record { ticks = c.time; rate = (sender_at e c.stream).row.clock_rate }

-- The header extension values of a sample: the section's mid, if given (RFC 9143 15).
abbrev pub values_given : Option (List ℕ) → ExtensionValues
values_given mid = record absent { mid = option_map (name_of 16) mid }

abbrev pub sent_step : EndState → SampleCommand → Option SampleError → EndStep
sent_step e c (Some error) = prints e (reply.Refused (sample_error_name error))
sent_step e c None = record {
  end = with_sender e c.stream (after_sample (sender_at e c.stream) (time_of e c) (values_given c.mid) c.sample);
  replies = map (λ d. reply.Datagram d) (sent_datagrams (sender_at e c.stream) (time_of e c) (values_given c.mid)
      c.sample) ++ reply.Done ∷ [];
}

-- sample E N TIME HEX [mid=TEXT]
abbrev pub sample_step : EndState → SampleCommand → EndStep
sample_step e c =
    if is_sender_at e c.stream then sent_step e c
    (refusal_of_sample (sender_at e c.stream) (time_of e c) (values_given c.mid) c.sample)
    else prints e reply.ErrorLine

abbrev pub verdict_reply : Received → Reply
verdict_reply received.Unreadable = reply.Unreadable
verdict_reply received.Foreign = reply.Foreign
verdict_reply received.Damaged = reply.Damaged
verdict_reply received.Refused = reply.NotTaken
verdict_reply (received.Taken stream number) = reply.Taken stream number

-- receive E HEX
abbrev pub receive_step : EndState → ReceiveCommand → EndStep
receive_step e c = prints (after_datagram e c.datagram) (verdict_reply (verdict_of e c.datagram))

abbrev pub unit_reply : Option MediaUnit → Reply
unit_reply None = reply.NoUnit
unit_reply (Some unit) = reply.NextUnit unit.first unit.last unit.time unit.bytes

abbrev pub poll_reply : PollResult → Reply
poll_reply (Ok unit) = unit_reply unit
poll_reply (Err fault) = reply.Fault (fault_name fault)

-- poll E N
abbrev pub poll_step : EndState → PollCommand → EndStep
poll_step e c =
    if is_receiver_at e c.stream then
    prints (with_receiver e c.stream (polled_receiver (receiver_at e c.stream)))
    (poll_reply (poll_result (receiver_at e c.stream)))
    else prints e reply.ErrorLine

abbrev pub repaired_step : EndState → RepairCommand → Result (List ℕ) RepairError → EndStep
repaired_step e c (Err error) = prints e (reply.Refused (repair_error_name error))
repaired_step e c (Ok datagram) =
    prints (with_sender e c.stream (with_repair (sender_at e c.stream))) (reply.Datagram datagram)

-- repair E N HEX
abbrev pub repair_step : EndState → RepairCommand → EndStep
repair_step e c =
    if is_sender_at e c.stream then repaired_step e c (repair (sender_at e c.stream) c.datagram)
    else prints e reply.ErrorLine

-- next E N, missing E N, close E N
abbrev pub ask_at : Ask → EndState → ℕ → EndStep
ask_at Next e n = if is_sender_at e n then prints e (reply.Next (sender_at e n).next) else prints e reply.ErrorLine
ask_at Missing e n =
    if is_receiver_at e n then record {
      end = e;
      replies = map (λ y. reply.Missing y) (missing (receiver_at e n).stream) ++ reply.Done ∷ [];
    }
    else prints e reply.ErrorLine
ask_at Close e n =
    if is_sender_at e n || is_receiver_at e n then prints (without_stream e n) reply.Done else prints e reply.ErrorLine

-- skip E N NUMBER, pass E N NUMBER, empty E N NUMBER, keep E N NUMBER
abbrev pub bound_at : Bound → EndState → ℕ → ℕ → EndStep
bound_at Skip e n number =
    if is_sender_at e n then prints (with_sender e n (skipped_to (sender_at e n) number)) reply.Done
    else prints e reply.ErrorLine
bound_at Pass e n number =
    if is_receiver_at e n then
    prints (with_receiver e n (with_stream (receiver_at e n) (passed_to number (receiver_at e n).stream))) reply.Done
    else prints e reply.ErrorLine
bound_at Empty e n number =
    if is_receiver_at e n then
    prints (with_receiver e n (with_stream (receiver_at e n) (passed_empty number (receiver_at e n).stream))) reply.Done
    else prints e reply.ErrorLine
bound_at Keep e n bytes =
    if is_receiver_at e n then
    prints (with_receiver e n (with_stream (receiver_at e n) (kept_within bytes (receiver_at e n).stream))) reply.Done
    else prints e reply.ErrorLine

-- What a stream command does to its end, and what it prints. The commands that make ends or exchange texts have their
-- own definitions.
abbrev pub step_of : EndState → Command → EndStep
step_of e (Send c) = send_step e c
step_of e (Open c) = open_step e c
step_of e (Sample c) = sample_step e c
step_of e (Receive c) = receive_step e c
step_of e (Poll c) = poll_step e c
step_of e (Repair c) = repair_step e c
step_of e (AskStream c) = ask_at c.ask e c.stream
step_of e (BoundStream c) = bound_at c.bound e c.stream c.number
step_of e command = prints e reply.ErrorLine

-- The end is this, and so are the replies.
abbrev pub IsStep : EndStep → EndState → List Reply → Type 0
IsStep step end replies = (end ≡ step.end) × (replies ≡ step.replies)

-- The command's call runs out of memory; only a command whose conditions hold makes a call.
abbrev pub RunsOut : EndState → Command → EndState → List Reply → Type 0
RunsOut e (Send c) after replies =
    IsTrue (is_sound_send e c) × (after ≡ e) × (replies ≡ reply.Refused memory ∷ [])
RunsOut e (Open c) after replies = IsTrue (is_valid_capacity c.held) × (after ≡ e)
    × (replies ≡ reply.Refused memory ∷ [])
RunsOut e (Sample c) after replies =
    IsTrue (is_sender_at e c.stream) × SenderFails e c.stream after × (replies ≡ reply.Refused memory ∷ [])
RunsOut e (Receive c) after replies = (after ≡ e) × (replies ≡ reply.Refused memory ∷ [])
RunsOut e (Poll c) after replies =
    IsTrue (is_receiver_at e c.stream) × PollStops e c.stream after × (replies ≡ reply.Fault memory ∷ [])
RunsOut e (Repair c) after replies =
    IsTrue (is_sender_at e c.stream) × (after ≡ e) × (replies ≡ reply.Refused memory ∷ [])
RunsOut e (AskStream c) after replies =
    (c.ask ≡ Missing) × IsTrue (is_receiver_at e c.stream) × (after ≡ e) × (replies ≡ reply.Refused memory ∷ [])
RunsOut e command after replies = ⊥

-- A command is answered as stated, or its call runs out of memory.
abbrev pub IsAnswered : EndState → Command → EndState → List Reply → Type 0
IsAnswered e command after replies = IsStep (step_of e command) after replies ⊎ RunsOut e command after replies

-- What the program answers to the lines of forwarders.
use Rattle.std.specs.Prelude.{◌≡◌, ◌⊎◌, ◌+◌, ◌^◌, ℕ, Bool, nat_le, nat_lt, ◌&&◌, List, [], ◌∷◌, ◌++◌, codes, length}
use Rattle.std.specs.Prelude.{Option, Some, None, slice_index_or, slice_set}
use Rattle.payload_core_base.specs.Outgoing.{Outgoing, outgoing}
use Rattle.rtp_wire.specs.declared.values.ExtensionValues.{ExtensionValues}
use Rattle.rtp_media_streams.specs.Forwarding as stream
use Rattle.rtp_media_streams.specs.Forwarding.{refusal_of_packet}
use Rattle.rtp_media_streams.specs.Receiving.{number_taken, taken_number, with_stream}
use Rattle.rtp_media_streams.specs.Rows.{format_of}
use Rattle.rtp_media_streams.specs.Sending.{datagram_of}
use Rattle.rtp_media_streams.specs.declared.errors.ForwardError.{ForwardError}
use Rattle.rtp_media_stream_table.specs.Arrivals.{Arrival, Own, arrival_at}
use Rattle.rtp_media_ends.specs.EndArrivals.{after_datagram, verdict_of}
use Rattle.rtp_media_ends.specs.Ends.{EndState, is_sender_at, receiver_at, sender_at, with_receiver, with_sender}
use Rattle.rtp_media_ends.specs.Stops.{Where}
use Rattle.rtp_media_forward.specs.Forwarding.{Forwarding, after_packet, ended, nothing_from, placed, reserved, skipped}
use Rattle.rtp_media_forward.specs.Forwarding.{start_of, switched}
use Rattle.rtp_media_forward.specs.declared.forwarder.Placed.{Placed}
use Rattle.rtp_media_program.specs.EndErrorNames.{forward_error_name}
use Rattle.rtp_media_program.specs.Exchanging.{AtEnd}
use Rattle.rtp_media_program.specs.Replies.{Prints, memory}
use Rattle.rtp_media_program.specs.Streams.{verdict_reply}
use Rattle.rtp_media_program.specs.declared.relay_words.ForwardCommand.{ForwardCommand}
use Rattle.rtp_media_program.specs.declared.relay_words.Mark.{Mark}
use Rattle.rtp_media_program.specs.declared.relay_words.Mark.TheVariants.{Ends, Leave, Reserve}
use Rattle.rtp_media_program.specs.declared.relay_words.MarkCommand.{MarkCommand}
use Rattle.rtp_media_program.specs.declared.relay_words.SwitchCommand.{SwitchCommand}
use Rattle.rtp_media_program.specs.declared.reply.Reply.{Reply}
use Rattle.rtp_media_program.specs.declared.reply.Reply.TheVariants as reply

-- The forwarder with this number, and the forwarders with it changed.
abbrev pub forwarder_at : List Forwarding → ℕ → Forwarding
forwarder_at fs n = slice_index_or fs n (nothing_from 0)

abbrev pub with_forwarder : List Forwarding → ℕ → Forwarding → List Forwarding
with_forwarder fs n f = slice_set fs n f

-- The packet that a datagram brings to a receiving stream.
pub record Brought : Type 0 where
  pub stream : ℕ
  pub low : ℕ
  pub time : ℕ
  pub marker : Bool
  pub values : ExtensionValues
  pub payload : List ℕ

abbrev pub arrival_of : Brought → Arrival
arrival_of p = Own p.stream p.low p.time p.marker p.values p.payload

-- The end once the packet's number is taken.
abbrev pub with_number : EndState → Brought → EndState
with_number e p =
    with_receiver e p.stream
    (with_stream (receiver_at e p.stream) (number_taken (receiver_at e p.stream).stream p.low))

-- The packet as it is sent on: payload, marker and values stay.
abbrev pub outgoing_at : Brought → Placed → Outgoing
outgoing_at p at = outgoing p.payload p.marker at.time p.values

-- The end after a sending stream was asked to send a packet under a number, and the reply, if it is refused for this
-- reason or not.
abbrev pub after_sending : EndState → (tx number : ℕ) → Option ForwardError → EndState
after_sending e tx number (Some error) = e
after_sending e tx number None = with_sender e tx (stream.after_packet (sender_at e tx) number)

abbrev pub sending_reply : EndState → (tx number : ℕ) → Outgoing → Option ForwardError → Reply
sending_reply e tx number o (Some error) = reply.Refused (forward_error_name error)
sending_reply e tx number o None = reply.Datagram (datagram_of (sender_at e tx) number o)

-- The packet is sent, or refused.
abbrev pub SendsOn : EndState → (tx number : ℕ) → Outgoing → EndState → Reply → Type 0
SendsOn e tx number o end told =
    (end ≡ after_sending e tx number (refusal_of_packet (sender_at e tx) number o))
    × (told ≡ sending_reply e tx number o (refusal_of_packet (sender_at e tx) number o))

-- Whether a frame of the receiving stream ends with the packet.
abbrev pub ends_frame : EndState → Brought → Bool
ends_frame e p = (format_of (receiver_at e p.stream).row).tail p.marker p.payload

-- What becomes of the end and of the forwarder, and the replies.
pub record RelayStep : Type 0 where
  pub end : EndState
  pub forwarding : Forwarding
  pub replies : List Reply

-- The packet's number is taken, and the forwarder says where it belongs.
abbrev pub placed_step : EndState → Forwarding → (tx : ℕ) → Brought → (ends : Bool) → (number : ℕ) → Option Placed
    → RelayStep
placed_step e f tx p ends number None =
    record { end = e; forwarding = f; replies = reply.Came p.stream number ∷ reply.NotSent ∷ [] }
placed_step e f tx p ends number (Some at) = record {
  end = after_sending e tx at.number (refusal_of_packet (sender_at e tx) at.number (outgoing_at p at));
  forwarding = after_packet f (Some at) ends;
  replies = reply.Came p.stream number ∷ sending_reply e tx at.number (outgoing_at p at)
      (refusal_of_packet (sender_at e tx) at.number (outgoing_at p at)) ∷ [];
}

abbrev pub taken_step : EndState → Forwarding → (tx : ℕ) → Brought → (ends : Bool) → Option ℕ → RelayStep
taken_step e f tx p ends None = record { end = e; forwarding = f; replies = reply.NotTaken ∷ [] }
taken_step e f tx p ends (Some number) = placed_step e f tx p ends number (placed f p.stream number p.time)

-- A packet comes, and is sent on by stream `tx`.
abbrev pub relay_step : EndState → Forwarding → (tx : ℕ) → Brought → RelayStep
relay_step e f tx p = taken_step (with_number e p) f tx p (ends_frame e p)
    (taken_number (receiver_at e p.stream).stream p.low)

abbrev pub IsRelayStep : RelayStep → EndState → Forwarding → List Reply → Type 0
IsRelayStep step end forwarding replies =
    (end ≡ step.end) × (forwarding ≡ step.forwarding) × (replies ≡ step.replies)

-- Memory runs out as the datagram is made: its number is taken and given, and it isn't sent.
pub record RunsOutOfMemory (e : EndState) (f : Forwarding) (p : Brought) (end : EndState) (forwarding : Forwarding)
    (replies : List Reply) : Type 0 where
  pub number : ℕ
  pub at : Placed
  pub taken : taken_number (receiver_at e p.stream).stream p.low ≡ Some number
  pub place : placed f p.stream number p.time ≡ Some at
  pub end_is : end ≡ with_number e p
  pub forwarding_is : forwarding ≡ after_packet f (Some at) (ends_frame e p)
  pub printed : Prints replies (reply.Refused memory)

-- The datagram is a receiving stream's own.
abbrev pub Relays : EndState → Forwarding → ForwardCommand → Brought → EndState → Forwarding → List Reply → Type 0
Relays e f c p end forwarding replies =
    (arrival_at e.streams c.datagram ≡ arrival_of p)
    × (IsRelayStep (relay_step e f c.stream p) end forwarding replies
    ⊎ RunsOutOfMemory e f p end forwarding replies)

-- The datagram isn't one that `receive` would take: the verdict is printed, and nothing changes.
abbrev pub TellsVerdict : EndState → Forwarding → ForwardCommand → EndState → Forwarding → List Reply → Type 0
TellsVerdict e f c end forwarding replies =
    (after_datagram e c.datagram ≡ e) × (end ≡ e) × (forwarding ≡ f)
    × Prints replies (verdict_reply (verdict_of e c.datagram))

abbrev pub Forwards : EndState → Forwarding → ForwardCommand → EndState → Forwarding → List Reply → Type 0
Forwards e f c end forwarding replies =
    ((p : Brought) × Relays e f c p end forwarding replies) ⊎ TellsVerdict e f c end forwarding replies

-- forward E N R HEX, at an end that is there
abbrev pub ForwardsAt : EndState → List Forwarding → ForwardCommand → EndState → List Forwarding → List Reply → Type 0
ForwardsAt e fs c end after replies =
    Where (nat_lt c.forwarder (length fs) && is_sender_at e c.stream)
    ((f : Forwarding) × Forwards e (forwarder_at fs c.forwarder) c end f replies
    × (after ≡ with_forwarder fs c.forwarder f))
    ((end ≡ e) × (after ≡ fs) × Prints replies reply.ErrorLine)

abbrev pub AnswersForward : Option EndState → List Forwarding → ForwardCommand → Option EndState → List Forwarding
    → List Reply → Type 0
AnswersForward (Some e) fs c (Some end) after replies = ForwardsAt e fs c end after replies
AnswersForward e fs c end after replies = (end ≡ e) × (after ≡ fs) × Prints replies reply.ErrorLine

-- What a forwarder does if it is there.
abbrev pub AtForwarder : List Forwarding → ℕ → List Forwarding → List Reply → (Forwarding → Forwarding → Reply → Type 0)
    → Type 0
AtForwarder fs n after replies Does =
    Where (nat_lt n (length fs))
    ((f : Forwarding) × (told : Reply) × Does (forwarder_at fs n) f told × (after ≡ with_forwarder fs n f)
    × Prints replies told)
    ((after ≡ fs) × Prints replies reply.ErrorLine)

-- It becomes this, and this is printed; or memory runs out, and it doesn't change.
abbrev pub Becomes : Forwarding → Forwarding → Reply → Forwarding → Reply → Type 0
Becomes old expected wanted new told =
    ((new ≡ expected) × (told ≡ wanted)) ⊎ ((new ≡ old) × (told ≡ reply.Refused memory))

abbrev pub IsSwitched : SwitchCommand → Forwarding → Forwarding → Reply → Type 0
IsSwitched c old new told = Becomes old (switched old c.source c.number c.time c.at) reply.Done new told

-- switch R SOURCE NUMBER TIMESTAMP AT
abbrev pub AnswersSwitch : List Forwarding → SwitchCommand → List Forwarding → List Reply → Type 0
AnswersSwitch fs c after replies = AtForwarder fs c.forwarder after replies (IsSwitched c)

abbrev pub IsMarked : Mark → ℕ → Forwarding → Forwarding → Reply → Type 0
IsMarked Leave number old new told = Becomes old (skipped old number) reply.Done new told
IsMarked Ends number old new told = (new ≡ ended old number) × (told ≡ reply.Done)
IsMarked Reserve number old new told =
    Where (nat_le (start_of old + number) (2 ^ 62))
    (Becomes old (reserved old number) (reply.Next (start_of old)) new told)
    ((new ≡ old) × (told ≡ reply.Refused (codes "NumberTooLarge")))

-- leave R NUMBER, ends R NUMBER, reserve R COUNT
abbrev pub AnswersMark : List Forwarding → MarkCommand → List Forwarding → List Reply → Type 0
AnswersMark fs c after replies = AtForwarder fs c.forwarder after replies (IsMarked c.mark c.number)

-- forwarder FIRST
abbrev pub AnswersBegin : List Forwarding → ℕ → List Forwarding → List Reply → Type 0
AnswersBegin fs first after replies =
    (after ≡ fs ++ nothing_from first ∷ []) × Prints replies (reply.Forwarder (length fs))

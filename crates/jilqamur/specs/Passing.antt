-- What the calls of an end answer that send packets on.
use Rattle.std.specs.Prelude.{ℕ, ◌≡◌, ◌≢◌, ◌≤◌, Bool, true, List, [], ◌∷◌, length, slice_range, Option, Some, None}
use Rattle.std.specs.Prelude.{Result, Ok, Err}
use Rattle.rtp_wire.specs.declared.values.ExtensionValues.{ExtensionValues}
use Rattle.payload_core_base.specs.Outgoing.{Outgoing}
use Rattle.rtp_media_streams.specs.Forwarding.{after_packet}
use Rattle.rtp_media_streams.specs.Receiving.{number_taken, taken_number, with_stream}
use Rattle.rtp_media_streams.specs.Sending.{datagram_of}
use Rattle.rtp_media_streams.specs.declared.errors.ForwardError.{ForwardError}
use Rattle.rtp_media_streams.specs.declared.errors.ForwardError.TheVariants as forward_error
use Rattle.rtp_media_stream_table.specs.Arrivals.{Own, arrival_at}
use Rattle.rtp_media_stream_table.specs.declared.received.Received.{Received}
use Rattle.rtp_media_stream_table.specs.declared.received.Received.TheVariants as received
use Rattle.rtp_media_ends.specs.EndArrivals.{verdict_of}
use Rattle.rtp_media_ends.specs.Ends.{EndState, is_receiver_at, is_sender_at, receiver_at, sender_at}
use Rattle.rtp_media_ends.specs.Ends.{with_receiver, with_sender}
use Rattle.rtp_media_ends.specs.PacketSteps.{packet_step_at}
use Rattle.rtp_media_ends.specs.Stops.{Where}
use Rattle.jilqamur.specs.Codes.{ok, memory, unreadable, foreign, damaged, refused, no_stream, limit_too_small}
use Rattle.jilqamur.specs.Codes.{adds_redundancy, number_too_large, no_payload}
use Rattle.jilqamur.specs.Sending.{HasNoSender}
use Rattle.jilqamur.specs.Values.{values_told}
use Rattle.jilqamur.specs.declared.passing.WireArrival.{WireArrival}
use Rattle.jilqamur.specs.declared.values.WireValues.{WireValues}

-- The number of the verdict on a datagram that isn't a stream's own.
abbrev pub foreign_code : Received → ℕ
foreign_code received.Unreadable = unreadable
foreign_code received.Foreign = foreign
foreign_code received.Damaged = damaged
foreign_code received.Refused = refused
foreign_code (received.Taken stream number) = refused

-- How a datagram arrives at the stream whose own it is.
pub record ArrivesAt (e : EndState) (datagram : List ℕ) (stream : ℕ) (arrival : WireArrival) (values : WireValues)
    : Type 0 where
  pub told : ExtensionValues
  pub own : arrival_at e.streams datagram ≡ Own stream arrival.low arrival.time arrival.marker told
      (slice_range datagram arrival.start arrival.end)
  pub receives : is_receiver_at e stream ≡ true
  pub within : (arrival.start ≤ arrival.end) × (arrival.end ≤ length datagram)
  pub values_are : values ≡ values_told told

-- What is answered of a datagram that isn't taken yet.
pub record AnswersArrival (e : EndState) (datagram : List ℕ) (result stream : ℕ) (arrival : WireArrival)
    (values : WireValues) : Type 0 where
  pub own : result ≡ ok → ArrivesAt e datagram stream arrival values
  pub other : result ≢ ok → result ≡ foreign_code (verdict_of e datagram)

-- The widened number, if it is taken.
abbrev pub IsNumber : Option ℕ → ℕ → ℕ → Type 0
IsNumber None result number = result ≡ refused
IsNumber (Some taken) result number = (result ≡ ok) × (number ≡ taken)

pub record TakesNumberAt (e : EndState) (n low result number : ℕ) (after : EndState) : Type 0 where
  pub taken : IsNumber (taken_number (receiver_at e n).stream low) result number
  pub is_behind : after ≡ with_receiver e n (with_stream (receiver_at e n) (number_taken (receiver_at e n).stream low))

-- The result of taking only a number at a stream.
abbrev pub TakesNumber : EndState → ℕ → ℕ → ℕ → ℕ → EndState → Type 0
TakesNumber e n low result number after =
    Where (is_receiver_at e n) (TakesNumberAt e n low result number after) ((result ≡ no_stream) × (after ≡ e))

-- The number of a refusal to send a packet on.
abbrev pub forward_code : ForwardError → ℕ
forward_code forward_error.AddsRedundancy = adds_redundancy
forward_code forward_error.NumberTooLarge = number_too_large
forward_code forward_error.NoPayload = no_payload
forward_code forward_error.LimitTooSmall = limit_too_small
forward_code forward_error.Memory = memory

abbrev pub forward_outcome : Result (List ℕ) ForwardError → ℕ
forward_outcome (Ok datagram) = ok
forward_outcome (Err error) = forward_code error

pub record SendsPacket (e : EndState) (n number : ℕ) (packet : Outgoing) (result : ℕ) (datagrams : List (List ℕ))
    (after : EndState) : Type 0 where
  pub outcome : result ≢ memory → result ≡ forward_outcome (packet_step_at e n number packet).answer
  pub sent : result ≡ ok → datagrams ≡ datagram_of (sender_at e n) number packet ∷ []
  pub is_behind : result ≡ ok → after ≡ with_sender e n (after_packet (sender_at e n) number)
  pub stays : result ≢ ok → after ≡ e

-- The result of sending a packet on at a stream.
abbrev pub AnswersPacket : EndState → ℕ → ℕ → Outgoing → ℕ → List (List ℕ) → EndState → Type 0
AnswersPacket e n number packet result datagrams after = Where (is_sender_at e n)
    (SendsPacket e n number packet result datagrams after) (HasNoSender e result after)

use Rattle.std.specs.Prelude.{ℕ, Bool, true, false, nat_lt, ◌&&◌, List, length}
use Rattle.std.specs.Prelude.{◌≡◌, None, slice_set, slice_index_or}
use Rattle.rtp_wire.specs.Maps.{empty_map}
use Rattle.media_types.specs.declared.codec.Codec.TheVariants.{Unknown}
use Rattle.payload_core_base.specs.Outgoing.{Outgoing}
use Rattle.payload_core_buffer.specs.Buffered.{holding_of}
use Rattle.rtp_wire.specs.Time.{Time}
use Rattle.rtp_wire.specs.declared.values.ExtensionValues.{ExtensionValues}
use Rattle.rtp_media_streams.specs.PacketSteps.{PacketStep, packet_step, repair_step}
use Rattle.rtp_media_streams.specs.SendSteps.{SendStep, send_step}
use Rattle.rtp_media_streams.specs.Sending as sending
use Rattle.rtp_media_streams.specs.Sending.{Sending, opened_sender}
use Rattle.rtp_media_streams.specs.Receiving as receiving
use Rattle.rtp_media_streams.specs.Receiving.{Receiving, opened_receiver}
use Rattle.rtp_media_streams.specs.declared.errors.ForwardError.{ForwardError}
use Rattle.rtp_media_streams.specs.declared.errors.RepairError.{RepairError}
use Rattle.rtp_media_streams.specs.declared.row_format.RowFormat.{RowFormat}
use Rattle.rtp_media_streams.specs.declared.types.PayloadTypes.{PayloadTypes}
use Rattle.rtp_media_stream_table.specs.declared.open_stream.OpenStream.{OpenStream}
use Rattle.rtp_media_stream_table.specs.declared.open_stream.OpenStream.TheVariants.{Closed, Sender, Receiver}

-- The streams with the n-th replaced.
abbrev pub set_sender : List OpenStream → ℕ → Sending → List OpenStream
set_sender streams n s = slice_set streams n (Sender s)

abbrev pub set_receiver : List OpenStream → ℕ → Receiving → List OpenStream
set_receiver streams n r = slice_set streams n (Receiver r)

-- The streams with the n-th closed: its number stays, and no other stream gets it.
abbrev pub set_closed : List OpenStream → ℕ → List OpenStream
set_closed streams n = slice_set streams n Closed

-- The payload types used if there is no row.
abbrev pub no_types : PayloadTypes
no_types = record { pt = 0; red = None; repair = None }

-- That of no row.
abbrev pub no_row_format : RowFormat
no_row_format = record { codec = Unknown; clock_rate = 1; octet_align = None; sprop_max_don_diff = None }

-- Streams of no row.
abbrev pub no_sender : Sending
no_sender = opened_sender 0 no_types empty_map no_row_format None false 0 1 0

abbrev pub no_receiver : Receiving
no_receiver = opened_receiver 0 no_types empty_map no_row_format (holding_of 0 0)

-- A stream as a sending one, or as a receiving one; a dummy if it is of another kind.
abbrev pub sending_of : OpenStream → Sending
sending_of (Sender s) = s
sending_of (Receiver r) = no_sender
sending_of Closed = no_sender

abbrev pub receiving_of : OpenStream → Receiving
receiving_of (Sender s) = no_receiver
receiving_of (Receiver r) = r
receiving_of Closed = no_receiver

abbrev pub is_sending : OpenStream → Bool
is_sending (Sender s) = true
is_sending (Receiver r) = false
is_sending Closed = false

abbrev pub is_receiving : OpenStream → Bool
is_receiving (Sender s) = false
is_receiving (Receiver r) = true
is_receiving Closed = false

-- The n-th stream.
abbrev pub nth_stream : List OpenStream → ℕ → OpenStream
nth_stream streams n = slice_index_or streams n (Receiver no_receiver)

abbrev pub nth_sender : List OpenStream → ℕ → Sending
nth_sender streams n = sending_of (nth_stream streams n)

abbrev pub nth_receiver : List OpenStream → ℕ → Receiving
nth_receiver streams n = receiving_of (nth_stream streams n)

-- The n-th stream did this; the others don't change.
abbrev pub AtNth : List OpenStream → ℕ → (Receiving → Receiving → Type 0) → List OpenStream → Type 0
AtNth streams n Did after = Did (nth_receiver streams n) (nth_receiver after n)
    × (after ≡ set_receiver streams n (nth_receiver after n))

-- A sample pushed at the n-th stream; the others don't change.
abbrev pub nth_send_step : List OpenStream → ℕ → Time → ExtensionValues → List ℕ → SendStep (List OpenStream)
nth_send_step streams n time values bytes =
    let step = send_step (nth_sender streams n) time values bytes in record {
      before = streams;
      refusal = step.refusal;
      datagrams = step.datagrams;
      next = set_sender streams n step.next;
      Stopped = λ after. step.Stopped (nth_sender after n) × (after ≡ set_sender streams n (nth_sender after n));
    }

-- A call for one datagram at the n-th stream; the others don't change.
abbrev pub nth_step : {E : Type 0} → List OpenStream → ℕ → PacketStep Sending E → PacketStep (List OpenStream) E
nth_step streams n step = record {
  before = streams;
  answer = step.answer;
  next = set_sender streams n step.next;
  memory = step.memory;
}

-- The n-th stream is asked for a repair, or handed a packet to send on under a number.
abbrev pub nth_repair_step : List OpenStream → ℕ → List ℕ → PacketStep (List OpenStream) RepairError
nth_repair_step streams n datagram = nth_step streams n (repair_step (nth_sender streams n) datagram)

abbrev pub nth_packet_step : List OpenStream → (n number : ℕ) → Outgoing → PacketStep (List OpenStream) ForwardError
nth_packet_step streams n number o = nth_step streams n (packet_step (nth_sender streams n) number o)

-- Whether the n-th of these streams is one that sends, and whether it is one that receives.
abbrev pub is_nth_sender : List OpenStream → ℕ → Bool
is_nth_sender streams n = nat_lt n (length streams) && is_sending (nth_stream streams n)

abbrev pub is_nth_receiver : List OpenStream → ℕ → Bool
is_nth_receiver streams n = nat_lt n (length streams) && is_receiving (nth_stream streams n)

-- Whether a stream could send, or take, the datagrams of one of this SSRC and these payload types.
abbrev pub sends_as : ℕ → PayloadTypes → OpenStream → Bool
sends_as ssrc types (Sender s) = sending.conflicts_with s ssrc types
sends_as ssrc types (Receiver r) = false
sends_as ssrc types Closed = false

abbrev pub receives_as : ℕ → PayloadTypes → OpenStream → Bool
receives_as ssrc types (Sender s) = false
receives_as ssrc types (Receiver r) = receiving.conflicts_with r ssrc types
receives_as ssrc types Closed = false

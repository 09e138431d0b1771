-- A packetizer of a codec, and the packets that its last sample left.
use Rattle.std.specs.Prelude.{ℕ, Bool, nat_lt, List, [], Result, Ok, Err, is_some, if◌then◌else◌}
use Rattle.payload_core_base.specs.Packing.{Packing, Sender, Sent}
use Rattle.payload_core_base.specs.declared.error.PacketError.{PacketError}
use Rattle.jilqamur.specs.Codes.{ok, out_of_range}
use Rattle.jilqamur.specs.Faults.{fault_code}
use Rattle.rtp_media_streams.specs.Rows.{first_state, packing_of}
use Rattle.rtp_media_streams.specs.declared.row_format.RowFormat.{RowFormat}
use Rattle.jilqamur.specs.Values.{if_given}
use Rattle.jilqamur.specs.Formats.{format_named, format_outcome}
use Rattle.jilqamur.specs.declared.format.WireFormat.{WireFormat}
use Rattle.jilqamur.specs.declared.packet_outbox.WirePacketizer.{WirePacketizer}

-- A packetizer has a format, with or without picture ids, with or without the browser options, and the state it keeps
-- between samples.
pub record PacketOutboxState : Type 0 where
  pub format : RowFormat
  pub has_id : Bool
  pub for_browsers : Bool
  pub sender : Sender
  pub packets : List (List ℕ)

-- One that cut nothing.
abbrev pub new_packet_outbox : WirePacketizer → WireFormat → List ℕ → PacketOutboxState
new_packet_outbox w format codec = record {
  format = format_named format codec;
  has_id = is_some (if_given w.has_picture_id w.picture_id);
  for_browsers = w.for_browsers;
  sender = first_state (format_named format codec) (if_given w.has_picture_id w.picture_id);
  packets = [];
}

abbrev pub is_out_of_range : WirePacketizer → Bool
is_out_of_range w = nat_lt 32767 w.picture_id

-- The picture id is in its range, and the format is one.
abbrev pub packetizer_outcome : WirePacketizer → WireFormat → List ℕ → ℕ
packetizer_outcome w format codec = if is_out_of_range w then out_of_range else format_outcome format codec

-- How it cuts samples.
abbrev pub packing_in : PacketOutboxState → Packing
packing_in p = packing_of p.format p.has_id p.for_browsers

-- What a sample gives at a limit, or why it is refused.
abbrev pub cut : PacketOutboxState → ℕ → List ℕ → Result Sent PacketError
cut p mtu sample = (packing_in p).pack p.sender mtu sample

abbrev pub cut_outcome : Result Sent PacketError → ℕ
cut_outcome (Ok sent) = ok
cut_outcome (Err e) = fault_code e

-- The packetizer after a sample; a refused sample changes nothing.
abbrev pub after_cut : PacketOutboxState → Result Sent PacketError → PacketOutboxState
after_cut p (Ok sent) = record p { sender = sent.sender; packets = sent.packets }
after_cut p (Err e) = p

-- A codec's depacketizer with its jitter buffer, and the unit popped last.
use Rattle.std.specs.Prelude.{ℕ, ◌≡◌, Bool, List, [], Option, Some, None, Result, Ok, Err}
use Rattle.payload_core_base.specs.Format.{Fragment}
use Rattle.payload_core_base.specs.declared.error.PacketError.{PacketError}
use Rattle.payload_core_buffer.specs.Buffered.{Holding, pushed}
use Rattle.payload_core_buffer.specs.Metas.{metas_of_unit}
use Rattle.payload_core_buffer.specs.Packets.{Packet, packet_from}
use Rattle.payload_core_buffer.specs.Pops.{PopState, pop_state}
use Rattle.payload_core_buffer.specs.Steps.{AnswersBy, as_answer, pop_step, unit_of}
use Rattle.payload_core_buffer.specs.declared.depacketized.Depacketized.{Depacketized}
use Rattle.payload_core_buffer.specs.declared.held.RtpMeta.{RtpMeta}
use Rattle.rtp_wire.specs.Values.{absent}
use Rattle.jilqamur.specs.Codes.{ok, nothing}
use Rattle.jilqamur.specs.Faults.{fault_code}
use Rattle.rtp_media_streams.specs.Rows.{format_of}
use Rattle.rtp_media_streams.specs.declared.row_format.RowFormat.{RowFormat}
use Rattle.jilqamur.specs.Formats.{format_named}
use Rattle.jilqamur.specs.Units.{UnitState, told_of, unit_from}
use Rattle.jilqamur.specs.declared.format.WireFormat.{WireFormat}
use Rattle.jilqamur.specs.declared.payload_unit.WireUnit.{WireUnit}

-- A depacketizer has a format, and holds packets until their frame is due.
pub record PacketInboxState : Type 0 where
  pub format : RowFormat
  pub holding : Holding
  pub held : List Packet
  pub cutoff : Option ℕ
  pub fragment : Fragment
  pub unit : Option UnitState

-- One that took nothing.
abbrev pub new_packet_inbox : WireFormat → List ℕ → Holding → PacketInboxState
new_packet_inbox format codec holding = record {
  format = format_named format codec;
  holding = holding;
  held = [];
  cutoff = None;
  fragment = None;
  unit = None;
}

-- What is known of a packet of this number, RTP time and marker.
abbrev pub meta_of : ℕ → ℕ → Bool → RtpMeta
meta_of number time marker = record { seq_no = number; time = time; marker = marker; ext_vals = absent }

-- The depacketizer after a packet.
abbrev pub behind_push : PacketInboxState → ℕ → ℕ → Bool → List ℕ → PacketInboxState
behind_push p number time marker payload =
    record p { held = pushed p.holding.held p.cutoff p.held (packet_from (meta_of number time marker) payload) }

-- What a pop reads and changes.
abbrev pub queue_of : PacketInboxState → PopState
queue_of p = pop_state p.held p.cutoff p.fragment

-- The number of a pop's answer, and the unit that it leaves, or the one that was left before.
abbrev pub pop_code : Result (Option Depacketized) PacketError → ℕ
pop_code (Ok None) = nothing
pop_code (Ok (Some frame)) = ok
pop_code (Err e) = fault_code e

abbrev pub unit_behind : Result (Option Depacketized) PacketError → Option UnitState → Option UnitState
unit_behind (Ok None) before = before
unit_behind (Ok (Some frame)) before = Some (unit_from (metas_of_unit frame) frame.bytes.items frame.extra)
unit_behind (Err e) before = before

-- The result of a pop with this hold-back, and the state after it.
pub record PopsAt (hold_back : ℕ) (p : PacketInboxState) (result : ℕ) (after : PacketInboxState) : Type 0 where
  pub popped : Result (Option Depacketized) PacketError
  pub pops : AnswersBy (pop_step (format_of p.format) hold_back (queue_of p)) (queue_of after)
      (as_answer unit_of popped)
  pub number : result ≡ pop_code popped
  pub unit_is : after.unit ≡ unit_behind popped p.unit
  pub format_is : after.format ≡ p.format
  pub holding_is : after.holding ≡ p.holding

abbrev pub bytes_of : Option UnitState → Option (List ℕ)
bytes_of None = None
bytes_of (Some u) = Some u.bytes

-- What is told of the unit.
abbrev pub IsToldOf : Option UnitState → WireUnit → Type 0
IsToldOf None told = Unit {0}
IsToldOf (Some u) told = told ≡ told_of u

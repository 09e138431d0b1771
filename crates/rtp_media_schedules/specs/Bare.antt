-- What comes and what is answered, header extension values aside.
use Rattle.std.specs.Prelude.{◌≡◌, ℕ, ◌+◌, ◌<◌, ◌≤◌, map, Some, None, Ok, Err}
use Rattle.payload_core_buffer.specs.Packets.{Packet}
use Rattle.payload_core_buffer.specs.Steps.{Answer, MediaUnit}
use Rattle.payload_core_buffer.specs.declared.held.RtpMeta.{RtpMeta}
use Rattle.rtp_media_schedules.specs.Hearing.{Comes, Content, Event, Poll, Stream, content_of}
use Rattle.rtp_media_schedules.specs.Turns.{Sender}
use Rattle.rtp_wire.specs.Values.{absent}

-- A datagram's content, a packet, and a unit without values.
abbrev pub bare : Content → Content
bare c = content_of c.time c.marker absent c.bytes

abbrev pub bare_meta : RtpMeta → RtpMeta
bare_meta m = record { seq_no = m.seq_no; time = m.time; marker = m.marker; ext_vals = absent }

abbrev pub bare_packet : Packet → Packet
bare_packet p = record { meta = bare_meta p.meta; payload = p.payload }

abbrev pub bare_unit : MediaUnit → MediaUnit
bare_unit u = record {
  first = u.first;
  last = u.last;
  time = u.time;
  values = absent;
  bytes = u.bytes;
  extra = u.extra;
}

abbrev pub bare_answer : Answer → Answer
bare_answer (Ok None) = Ok None
bare_answer (Ok (Some u)) = Ok (Some (bare_unit u))
bare_answer (Err e) = Err e

abbrev pub bare_event : Event → Event
bare_event (Comes low content) = Comes low (bare content)
bare_event Poll = Poll

abbrev pub bare_stream : Stream → Stream
bare_stream s = record {
  holding = s.holding;
  window = s.window;
  held = map bare_packet s.held;
  cutoff = s.cutoff;
  fragment = s.fragment;
}

-- Values aside, a sender's datagrams with these numbers are those of another.
abbrev pub AreAside : (first count : ℕ) → Sender → Sender → Type 0
AreAside first count a b = (x : ℕ) → first ≤ x → x < first + count → bare (a x) ≡ b x

-- What a schedule does to one stream is what its own datagrams and polls do.
use Rattle.std.proofs.Common.{◌≡◌, ℕ, refl, sym, ◌∙◌, ap, ap₂, Bool, true, false, List, [], ◌∷◌, ◌++◌}
use Rattle.std.proofs.Common.{Option, Some, None, Result, Ok, Err}
use Rattle.std.proofs.lemmas.List.{get_or-set_same}
use Rattle.std.specs.List.{cons_option}
use Rattle.std.specs.Prelude.{if◌then◌else◌, option_and_then, slice_get}
use Rattle.rtp_wire.specs.Header.{header_in}
use Rattle.rtp_wire.specs.Maps.{empty_map}
use Rattle.rtp_wire.specs.declared.values.ExtensionValues.{ExtensionValues}
use Rattle.rtp_wire.specs.declared.header.RtpHeader.{RtpHeader}
use Rattle.payload_core_base.specs.Format.{Format}
use Rattle.rtp_media_schedules.specs.Hearing as hearing
use Rattle.payload_core_buffer.specs.Steps.{Answer}
use Rattle.rtp_media_schedules.specs.Hearing.{Comes, Content, Stream, after_events, heard, polled}
use Rattle.rtp_wire.specs.Repairs.{Wrapped}
use Rattle.rtp_media_streams.specs.Receiving.{Receiving, brought, is_own, polled_receiver, values_read}
use Rattle.rtp_media_streams.specs.Receiving.{with_stream}
use Rattle.rtp_media_streams.specs.Rows.{format_of}
use Rattle.rtp_media_streams.specs.declared.errors.RepairError.{RepairError}
use Rattle.rtp_media_streams.specs.declared.row_format.RowFormat.{RowFormat}
use Rattle.rtp_media_ends.specs.EndArrivals.{after_datagram}
use Rattle.rtp_media_ends.specs.Ends.{EndState, receiver_at, with_receiver}
use Rattle.rtp_media_stream_table.specs.Streams.{receiving_of}
use Rattle.rtp_media_stream_table.specs.declared.open_stream.OpenStream.TheVariants.{Receiver}
use Rattle.rtp_media_ends.specs.FullArrival.{IsFound}
use Rattle.rtp_media_ends.specs.OwnEvents.{content_event, event_by, event_in}
use Rattle.rtp_media_ends.proofs.Isolation as isolation
use Rattle.rtp_media_ends.proofs.Isolation.{is-receiving, is-there, known-again, nobody, same-again, stream-is}
use Rattle.rtp_media_ends.proofs.Isolation.{stream_for-set}
use Rattle.rtp_media_runs.specs.Schedules.{Source, after_bytes, after_schedule, answers_on, bytes_of, own_events}
use Rattle.rtp_media_runs.specs.Schedules.{played, poll_answers, repair_at, source_after, verdicts_on}
use Rattle.rtp_media_runs.specs.declared.schedule.Event.{Event}
use Rattle.rtp_media_runs.specs.declared.schedule.Event.TheVariants.{Arrive, Foreign, Poll, Repair}

-- what a datagram is to a stream is never a poll
data IsArrival : Option hearing.Event → Type 0 where
  NoEvent : IsArrival None
  OfDatagram : {low : ℕ} {c : Content} → IsArrival (Some (Comes low c))

heard-arrival : (format : Format) (s : Stream) (o : Option hearing.Event) (es : List hearing.Event) → IsArrival o
    → heard format (isolation.after_event format s o) es ≡ heard format s (cons_option o es)
heard-arrival format s None es is = refl
heard-arrival format s (Some (Comes low c)) es is = refl
heard-arrival format s (Some hearing.Poll) es is = elim is [ ]

content-arrival : (h : RtpHeader) (v : ExtensionValues) (w : Option Wrapped) → IsArrival (content_event h v w)
content-arrival h v None = NoEvent
content-arrival h v (Some w) = OfDatagram

if-arrival : (b : Bool) (o : Option hearing.Event) → IsArrival o → IsArrival (if b then o else None)
if-arrival true o is = is
if-arrival false o is = NoEvent

header-arrival : (r : Receiving) (o : Option RtpHeader) (d : List ℕ) → IsArrival (event_by r o d)
header-arrival r None d = NoEvent
header-arrival r (Some h) d = if-arrival (is_own r h.ssrc h.payload_type)
    (content_event h (values_read r.map d) (brought r.ssrc r.types h d))
    (content-arrival h (values_read r.map d) (brought r.ssrc r.types h d))

event-arrival : (r : Receiving) (d : List ℕ) → IsArrival (event_in r d)
event-arrival r d = header-arrival r (header_in empty_map d) d

-- The end's stream of this number is this one but for what it keeps, and takes its own datagrams.
pub record IsAt (e : EndState) (n : ℕ) (r : Receiving) : Type 0 where
  pub same : receiver_at e n ≡ with_stream r (receiver_at e n).stream
  pub known : IsFound e n r

-- after a datagram
datagram-at : (e : EndState) (n : ℕ) (r : Receiving) (d : List ℕ) → IsAt e n r → IsAt (after_datagram e d) n r
datagram-at e n r d is = record {
  same = same-again e n r d is.same is.known;
  known = known-again e n r d is.same is.known;
}

-- after a poll
poll-is : (e : EndState) (n : ℕ) (r : Receiving) → IsAt e n r
    → receiver_at (with_receiver e n (polled_receiver (receiver_at e n))) n ≡ polled_receiver (receiver_at e n)
poll-is e n r is = ap receiving_of
    (get_or-set_same e.streams n (Receiver (polled_receiver (receiver_at e n))) nobody (is-there e n r is.known))

row-is : (e : EndState) (n : ℕ) (r : Receiving) → IsAt e n r → (receiver_at e n).row ≡ r.row
row-is e n r is = ap (λ (x : Receiving). x.row) is.same

polled-is : (e : EndState) (n : ℕ) (r : Receiving) → IsAt e n r
    → (receiver_at (with_receiver e n (polled_receiver (receiver_at e n))) n).stream
    ≡ polled (format_of r.row) (receiver_at e n).stream
polled-is e n r is =
    ap (λ (x : Receiving). x.stream) (poll-is e n r is)
    ∙ ap (λ (row : RowFormat). polled (format_of row) (receiver_at e n).stream) (row-is e n r is)

poll-at : (e : EndState) (n : ℕ) (r : Receiving) → IsAt e n r
    → IsAt (with_receiver e n (polled_receiver (receiver_at e n))) n r
poll-at e n r is = record {
  same = poll-is e n r is
      ∙ ap (λ (x : Receiving). with_stream x
      (polled (format_of (receiver_at e n).row) (receiver_at e n).stream)) is.same
      ∙ ap (with_stream r) (sym (ap (λ (x : Receiving). x.stream) (poll-is e n r is)));
  known = λ ssrc pt has. stream_for-set e.streams n (polled (format_of (receiver_at e n).row) (receiver_at e n).stream)
      ssrc pt (is-receiving e n r is.known) ∙ is.known ssrc pt has;
}

-- the answers of the rest are what is heard of it
abbrev Isolates : Source → ℕ → Receiving → List Event → EndState → Type 0
Isolates sent n r xs e =
    poll_answers (played sent n e xs) ≡ heard (format_of r.row) (receiver_at e n).stream (own_events sent r xs)

on-datagram : (sent : Source) (e : EndState) (n : ℕ) (r : Receiving) (d : List ℕ) (xs : List Event)
    → IsAt e n r → Isolates sent n r xs (after_datagram e d)
    → poll_answers (played sent n (after_datagram e d) xs)
    ≡ heard (format_of r.row) (receiver_at e n).stream (cons_option (event_in r d) (own_events sent r xs))
on-datagram sent e n r d xs is ih =
    ih
    ∙ ap (λ (s : Stream). heard (format_of r.row) s (own_events sent r xs)) (stream-is e n r d is.same is.known)
    ∙ heard-arrival (format_of r.row) (receiver_at e n).stream (event_in r d) (own_events sent r xs)
    (event-arrival r d)

on-bytes : (sent : Source) (e : EndState) (n : ℕ) (r : Receiving) (o : Option (List ℕ)) (xs : List Event)
    → IsAt e n r → ((e' : EndState) → IsAt e' n r → Isolates sent n r xs e')
    → poll_answers (verdicts_on e o ++ played sent n (after_bytes e o) xs)
    ≡ heard (format_of r.row) (receiver_at e n).stream
    (cons_option (option_and_then (event_in r) o) (own_events sent r xs))
on-bytes sent e n r None xs is ih = ih e is
on-bytes sent e n r (Some d) xs is ih = on-datagram sent e n r d xs is
    (ih (after_datagram e d) (datagram-at e n r d is))

on-repair : (sent : Source) (e : EndState) (n : ℕ) (r : Receiving) (o : Option (Result (List ℕ) RepairError))
    (xs : List Event) → IsAt e n r → ((e' : EndState) → IsAt e' n r → Isolates sent n r xs e')
    → poll_answers (answers_on e o ++ played sent n (after_bytes e (bytes_of o)) xs)
    ≡ heard (format_of r.row) (receiver_at e n).stream
    (cons_option (option_and_then (event_in r) (bytes_of o)) (own_events sent r xs))
on-repair sent e n r None xs is ih = ih e is
on-repair sent e n r (Some (Err x)) xs is ih = ih e is
on-repair sent e n r (Some (Ok d)) xs is ih = on-datagram sent e n r d xs is
    (ih (after_datagram e d) (datagram-at e n r d is))

-- The answers to the polls of a schedule are what is heard of the stream's own datagrams and polls.
pub isolated : (sent : Source) (n : ℕ) (r : Receiving) (xs : List Event) (e : EndState) → IsAt e n r
    → poll_answers (played sent n e xs)
    ≡ heard (format_of r.row) (receiver_at e n).stream (own_events sent r xs)
isolated sent n r [] e is = refl
isolated sent n r (Arrive k ∷ xs) e is =
    on-bytes sent e n r (slice_get sent.datagrams k) xs is (isolated sent n r xs)
isolated sent n r (Repair k ∷ xs) e is =
    let after : Source = source_after sent (Repair k) in
    on-repair after e n r (repair_at sent k) xs is (isolated after n r xs)
isolated sent n r (Foreign d ∷ xs) e is =
    on-datagram sent e n r d xs is (isolated sent n r xs (after_datagram e d) (datagram-at e n r d is))
isolated sent n r (Poll ∷ xs) e is =
    ap₂ (λ (a : Answer) (os : List Answer). a ∷ os)
    (ap (λ (row : RowFormat). hearing.poll_answer (format_of row) (receiver_at e n).stream) (row-is e n r is))
    (isolated sent n r xs (with_receiver e n (polled_receiver (receiver_at e n))) (poll-at e n r is)
    ∙ ap (λ (s : Stream). heard (format_of r.row) s (own_events sent r xs)) (polled-is e n r is))

-- what bytes do to the stream
bytes-after : (e : EndState) (n : ℕ) (r : Receiving) (o : Option (List ℕ)) → IsAt e n r
    → IsAt (after_bytes e o) n r
    × ((receiver_at (after_bytes e o) n).stream
    ≡ isolation.after_event (format_of r.row) (receiver_at e n).stream (option_and_then (event_in r) o))
bytes-after e n r None is = (is, refl)
bytes-after e n r (Some d) is = (datagram-at e n r d is, stream-is e n r d is.same is.known)

option-after : (format : Format) (s : Stream) (o : Option hearing.Event) (es : List hearing.Event)
    → after_events format (isolation.after_event format s o) es ≡ after_events format s (cons_option o es)
option-after format s None es = refl
option-after format s (Some x) es = refl

-- The stream after a schedule is the one after its own events.
pub record IsAfter (sent : Source) (n : ℕ) (r : Receiving) (xs : List Event) (e : EndState) : Type 0 where
  pub at : IsAt (after_schedule sent n e xs) n r
  pub stream : (receiver_at (after_schedule sent n e xs) n).stream
      ≡ after_events (format_of r.row) (receiver_at e n).stream (own_events sent r xs)

after-step : (sent : Source) (n : ℕ) (r : Receiving) (xs : List Event) (e f : EndState) (o : Option hearing.Event)
    → (receiver_at f n).stream ≡ isolation.after_event (format_of r.row) (receiver_at e n).stream o
    → (receiver_at (after_schedule sent n f xs) n).stream
    ≡ after_events (format_of r.row) (receiver_at f n).stream (own_events sent r xs)
    → (receiver_at (after_schedule sent n f xs) n).stream
    ≡ after_events (format_of r.row) (receiver_at e n).stream (cons_option o (own_events sent r xs))
after-step sent n r xs e f o stream rest =
    rest ∙ ap (λ (s : Stream). after_events (format_of r.row) s (own_events sent r xs)) stream
    ∙ option-after (format_of r.row) (receiver_at e n).stream o (own_events sent r xs)

pub after-isolated : (xs : List Event) (sent : Source) (n : ℕ) (r : Receiving) (e : EndState) → IsAt e n r
    → IsAfter sent n r xs e
after-isolated [] sent n r e is = record { at = is; stream = refl }
after-isolated (Arrive k ∷ xs) sent n r e is =
    let o : Option (List ℕ) = slice_get sent.datagrams k in
    let step = bytes-after e n r o is in
    let rest : IsAfter sent n r xs (after_bytes e o) = after-isolated xs sent n r (after_bytes e o) step.0 in
    record {
      at = rest.at;
      stream = after-step sent n r xs e (after_bytes e o) (option_and_then (event_in r) o) step.1 rest.stream;
    }
after-isolated (Repair k ∷ xs) sent n r e is =
    let o : Option (List ℕ) = bytes_of (repair_at sent k) in
    let u : Source = source_after sent (Repair k) in
    let step = bytes-after e n r o is in
    let rest : IsAfter u n r xs (after_bytes e o) = after-isolated xs u n r (after_bytes e o) step.0 in
    record {
      at = rest.at;
      stream = after-step u n r xs e (after_bytes e o) (option_and_then (event_in r) o) step.1 rest.stream;
    }
after-isolated (Foreign d ∷ xs) sent n r e is =
    let step = bytes-after e n r (Some d) is in
    let rest : IsAfter sent n r xs (after_datagram e d) = after-isolated xs sent n r (after_datagram e d) step.0 in
    record { at = rest.at; stream = after-step sent n r xs e (after_datagram e d) (event_in r d) step.1 rest.stream }
after-isolated (Poll ∷ xs) sent n r e is =
    let f : EndState = with_receiver e n (polled_receiver (receiver_at e n)) in
    let rest : IsAfter sent n r xs f = after-isolated xs sent n r f (poll-at e n r is) in
    record {
      at = rest.at;
      stream = rest.stream
          ∙ ap (λ (s : Stream). after_events (format_of r.row) s (own_events sent r xs)) (polled-is e n r is);
    }

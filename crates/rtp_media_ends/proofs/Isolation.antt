-- What datagrams do to one stream is what its own datagrams do.
use Rattle.std.proofs.Common.{◌≡◌, ◌≢◌, ℕ, ◌<◌, refl, sym, ◌∙◌, ap, ap₂, subst, arith, Bool, true, false, ◌&&◌, List}
use Rattle.std.proofs.Common.{[], ◌∷◌, length, true≢false}
use Rattle.std.proofs.lemmas.Bool.Decides.{nat_tests}
use Rattle.std.specs.Prelude.{◌||◌, nat_lt, Option, Some, None, if◌then◌else◌, ◌==◌, slice_set}
use Rattle.std.specs.List.{cons_option}
use Rattle.std.proofs.lemmas.List.{get_or-set_same, get_or-set_other, length-set}
use Rattle.std.proofs.lemmas.List.Quantifiers.{position-Some}
use Rattle.std.proofs.lemmas.List.Folds.{position_or_len-set}
use Rattle.rtp_wire.specs.Header.{header_in}
use Rattle.rtp_wire.specs.Maps.{empty_map}
use Rattle.rtp_wire.specs.declared.values.ExtensionValues.{ExtensionValues}
use Rattle.rtp_wire.specs.declared.header.RtpHeader.{RtpHeader}
use Rattle.payload_core_base.specs.Format.{Format}
use Rattle.rtp_media_schedules.specs.Hearing.{Stream, Event, heard_step, after_events}
use Rattle.rtp_wire.specs.Repairs.{Wrapped}
use Rattle.rtp_media_streams.specs.Receiving.{Receiving, brought, is_own, values_read, with_stream}
use Rattle.rtp_media_streams.specs.Rows.{format_of}
use Rattle.rtp_media_streams.specs.Types.{is_repair_key, is_type}
use Rattle.rtp_media_stream_table.specs.declared.open_stream.OpenStream.{OpenStream}
use Rattle.rtp_media_stream_table.specs.declared.open_stream.OpenStream.TheVariants.{Closed, Sender, Receiver}
use Rattle.rtp_media_ends.specs.Ends.{EndState}
use Rattle.rtp_media_stream_table.specs.Streams.{is_receiving, no_receiver, nth_receiver, nth_stream}
use Rattle.rtp_media_ends.specs.Ends.{receiver_at}
use Rattle.rtp_media_stream_table.specs.Streams.{receiving_of}
use Rattle.rtp_media_stream_table.specs.Arrivals.{own_of, arrival_for, arrival_by, stream_for}
use Rattle.rtp_media_ends.specs.EndArrivals.{after_arrival}
use Rattle.rtp_media_ends.specs.EndArrivals.{after_datagram}
use Rattle.rtp_media_stream_table.specs.Arrivals.{takes}
use Rattle.rtp_media_ends.specs.FullArrival.{IsFound, after_datagrams}
use Rattle.rtp_media_ends.specs.OwnEvents.{content_event, event_by, event_in, own_events}

abbrev pub after_event : Format → Stream → Option Event → Stream
after_event format s None = s
after_event format s (Some e) = heard_step format s e

abbrev pub nobody : OpenStream
nobody = Receiver no_receiver

-- other things kept in one receiving stream: the streams are found as before
pub stream_for-set : (ss : List OpenStream) (m : ℕ) (s : Stream) (ssrc pt : ℕ)
    → is_receiving (nth_stream ss m) ≡ true
    → stream_for (slice_set ss m (Receiver (with_stream (nth_receiver ss m) s))) ssrc pt ≡ stream_for ss ssrc pt
stream_for-set ss m s ssrc pt receives =
    ap₂ (λ (p n : ℕ). if nat_lt p n then Some p else None)
    (position_or_len-set (takes ssrc pt) ss m (Receiver (with_stream (nth_receiver ss m) s)) nobody
    (as_before (nth_stream ss m) receives))
    (length-set ss m (Receiver (with_stream (nth_receiver ss m) s)))
  where
    as_before : (x : OpenStream) → is_receiving x ≡ true
        → takes ssrc pt (Receiver (with_stream (receiving_of x) s)) ≡ takes ssrc pt x
    as_before (Sender t) h = absurd (true≢false (sym h))
    as_before Closed h = absurd (true≢false (sym h))
    as_before (Receiver r) h = refl

-- a stream that takes datagrams of an SSRC and a type
record Takes (ss : List OpenStream) (ssrc pt m : ℕ) : Type 0 where
  within : m < length ss
  receives : is_receiving (nth_stream ss m) ≡ true
  own : is_own (nth_receiver ss m) ssrc pt ≡ true

found-own : (ss : List OpenStream) (ssrc pt m : ℕ) → stream_for ss ssrc pt ≡ Some m → Takes ss ssrc pt m
found-own ss ssrc pt m e =
    let f = position-Some (takes ssrc pt) ss m nobody e in
    let taken = by (nth_stream ss m) f.1 in
    record { within = f.0; receives = taken.0; own = taken.1 }
  where
    by : (x : OpenStream) → takes ssrc pt x ≡ true
        → (is_receiving x ≡ true) × (is_own (receiving_of x) ssrc pt ≡ true)
    by (Sender s) h = absurd (true≢false (sym h))
    by Closed h = absurd (true≢false (sym h))
    by (Receiver r) h = (refl, h)

-- what is known of the end after an arrival
record Heard1 (e : EndState) (n : ℕ) (event : Option Event) (after : EndState) : Type 0 where
  stream : receiver_at after n ≡ with_stream (receiver_at e n)
      (after_event (format_of (receiver_at e n).row) (receiver_at e n).stream event)
  found : (ssrc pt : ℕ) → stream_for after.streams ssrc pt ≡ stream_for e.streams ssrc pt

unchanged : (e : EndState) (n : ℕ) → Heard1 e n None e
unchanged e n = record { stream = refl; found = λ ssrc pt. refl }

-- an arrival at the stream itself
here : (e : EndState) (n : ℕ) (h : RtpHeader) (v : ExtensionValues) (p : Option Wrapped) → n < length e.streams
    → is_receiving (nth_stream e.streams n) ≡ true → Heard1 e n (content_event h v p) (after_arrival e (own_of n h v p))
here e n h v None lt receives = unchanged e n
here e n h v (Some w) lt receives = record {
  stream = ap receiving_of (get_or-set_same e.streams n _ nobody lt);
  found = λ ssrc pt. stream_for-set e.streams n _ ssrc pt receives;
}

-- an arrival at another stream
there : (e : EndState) (n m : ℕ) (h : RtpHeader) (v : ExtensionValues) (p : Option Wrapped) → n ≢ m
    → is_receiving (nth_stream e.streams m) ≡ true → Heard1 e n None (after_arrival e (own_of m h v p))
there e n m h v None ne receives = unchanged e n
there e n m h v (Some w) ne receives = record {
  stream = ap receiving_of (get_or-set_other e.streams m n _ nobody ne);
  found = λ ssrc pt. stream_for-set e.streams m _ ssrc pt receives;
}

-- one datagram, by whether it is the stream's own
step-by : (e : EndState) (n : ℕ) (h : RtpHeader) (d : List ℕ) (own : Bool) (o : Option ℕ) → n < length e.streams
    → is_receiving (nth_stream e.streams n) ≡ true → IsFound e n (receiver_at e n) →
    is_own (receiver_at e n) h.ssrc h.payload_type ≡ own → stream_for e.streams h.ssrc h.payload_type ≡ o →
    Heard1 e n (if own then content_event h (values_read (receiver_at e n).map d)
    (brought (receiver_at e n).ssrc (receiver_at e n).types h d) else None)
    (after_arrival e (arrival_for e.streams o h d))
step-by e n h d false None lt receives known b f = unchanged e n
step-by e n h d false (Some m) lt receives known b f =
    let other : Takes e.streams h.ssrc h.payload_type m = found-own e.streams h.ssrc h.payload_type m f in
    there e n m h (values_read (receiver_at e m).map d) (brought (receiver_at e m).ssrc (receiver_at e m).types h d)
    (λ same. true≢false (sym other.own
    ∙ ap (λ (k : ℕ). is_own (receiver_at e k) h.ssrc h.payload_type) (sym same) ∙ b)) other.receives
step-by e n h d true o lt receives known b f =
    let is : Some n ≡ o = sym (known h.ssrc h.payload_type b) ∙ f in
    subst (λ (q : Option ℕ). Heard1 e n (content_event h (values_read (receiver_at e n).map d)
    (brought (receiver_at e n).ssrc (receiver_at e n).types h d)) (after_arrival e (arrival_for e.streams q h d))) is
    (here e n h (values_read (receiver_at e n).map d) (brought (receiver_at e n).ssrc (receiver_at e n).types h d)
    lt receives)

step-header : (e : EndState) (n : ℕ) (d : List ℕ) (o : Option RtpHeader) → n < length e.streams
    → is_receiving (nth_stream e.streams n) ≡ true → IsFound e n (receiver_at e n) →
    Heard1 e n (event_by (receiver_at e n) o d) (after_arrival e (arrival_by e.streams o d))
step-header e n d None lt receives known = unchanged e n
step-header e n d (Some h) lt receives known = step-by e n h d (is_own (receiver_at e n) h.ssrc h.payload_type)
    (stream_for e.streams h.ssrc h.payload_type) lt receives known refl refl

-- a stream that is found is there, and receives
found-there : (e : EndState) (n : ℕ) (r : Receiving) → IsFound e n r → Takes e.streams r.ssrc r.types.pt n
found-there e n r known = found-own e.streams r.ssrc r.types.pt n
    (known r.ssrc r.types.pt (first (r.ssrc == r.ssrc) (r.types.pt == r.types.pt) (is_type r.types.red r.types.pt)
    (is_repair_key r.types.repair r.ssrc r.types.pt) (eqb-same r.ssrc) (eqb-same r.types.pt)))
  where
    eqb-same : (a : ℕ) → (a == a) ≡ true
    eqb-same a = grind (arith, nat_tests)

    first : (a b c d : Bool) → a ≡ true → b ≡ true → ((a && (b || c)) || d) ≡ true
    first true true c d h k = refl
    first true false c d h k = absurd (true≢false (sym k))
    first false b c d h k = absurd (true≢false (sym h))

pub is-there : (e : EndState) (n : ℕ) (r : Receiving) → IsFound e n r → n < length e.streams
is-there e n r known = (found-there e n r known).within

pub is-receiving : (e : EndState) (n : ℕ) (r : Receiving) → IsFound e n r → is_receiving (nth_stream e.streams n) ≡ true
is-receiving e n r known = (found-there e n r known).receives

-- one datagram
step : (e : EndState) (n : ℕ) (d : List ℕ) → IsFound e n (receiver_at e n)
    → Heard1 e n (event_in (receiver_at e n) d) (after_datagram e d)
step e n d known = step-header e n d (header_in empty_map d)
    (is-there e n (receiver_at e n) known) (is-receiving e n (receiver_at e n) known) known

after-option : (format : Format) (s : Stream) (o : Option Event) (es : List Event)
    → after_events format (after_event format s o) es ≡ after_events format s (cons_option o es)
after-option format s None es = refl
after-option format s (Some e) es = refl

-- the stream after one datagram
module _ (e : EndState) (n : ℕ) (r : Receiving) (d : List ℕ)
    (same : receiver_at e n ≡ with_stream r (receiver_at e n).stream) (known : IsFound e n r) where
  one : Heard1 e n (event_in (receiver_at e n) d) (after_datagram e d)
  one = step e n d (subst (λ (x : Receiving). IsFound e n x) (sym same) known)

  pub stream-is : (receiver_at (after_datagram e d) n).stream
      ≡ after_event (format_of r.row) (receiver_at e n).stream (event_in r d)
  stream-is =
      ap (λ (x : Receiving). x.stream) one.stream
      ∙ ap₂ (λ (f : Format) (o : Option Event). after_event f (receiver_at e n).stream o)
      (ap (λ (x : Receiving). format_of x.row) same) (ap (λ (x : Receiving). event_in x d) same)

  pub same-again : receiver_at (after_datagram e d) n ≡ with_stream r (receiver_at (after_datagram e d) n).stream
  same-again =
      one.stream ∙ ap (λ (x : Receiving). with_stream x
      (after_event (format_of (receiver_at e n).row) (receiver_at e n).stream (event_in (receiver_at e n) d))) same
      ∙ ap (with_stream r) (sym (ap (λ (x : Receiving). x.stream) one.stream))

  pub known-again : IsFound (after_datagram e d) n r
  known-again = λ ssrc pt has. one.found ssrc pt ∙ known ssrc pt has

-- The stream after a list of datagrams is the stream after its own ones.
pub isolated : (ds : List (List ℕ)) (e : EndState) (n : ℕ) (r : Receiving) → receiver_at e n
    ≡ with_stream r (receiver_at e n).stream → IsFound e n r →
    (receiver_at (after_datagrams e ds) n).stream
    ≡ after_events (format_of r.row) (receiver_at e n).stream (own_events r ds)
isolated [] e n r same known = refl
isolated (d ∷ ds) e n r same known =
    isolated ds (after_datagram e d) n r (same-again e n r d same known) (known-again e n r d same known)
    ∙ ap (λ (x : Stream). after_events (format_of r.row) x (own_events r ds)) (stream-is e n r d same known)
    ∙ after-option (format_of r.row) (receiver_at e n).stream (event_in r d) (own_events r ds)

-- it is there and receives, and is else as before
pub found-after : (ds : List (List ℕ)) (e : EndState) (n : ℕ) (r : Receiving) → receiver_at e n
    ≡ with_stream r (receiver_at e n).stream → IsFound e n r
    → (n < length (after_datagrams e ds).streams)
    × (is_receiving (nth_stream (after_datagrams e ds).streams n) ≡ true)
found-after [] e n r same known = (is-there e n r known, is-receiving e n r known)
found-after (d ∷ ds) e n r same known = found-after ds (after_datagram e d) n r (same-again e n r d same known)
    (known-again e n r d same known)

pub same-after : (ds : List (List ℕ)) (e : EndState) (n : ℕ) (r : Receiving) → receiver_at e n
    ≡ with_stream r (receiver_at e n).stream → IsFound e n r →
    receiver_at (after_datagrams e ds) n ≡ with_stream r (receiver_at (after_datagrams e ds) n).stream
same-after [] e n r same known = same
same-after (d ∷ ds) e n r same known = same-after ds (after_datagram e d) n r (same-again e n r d same known)
    (known-again e n r d same known)

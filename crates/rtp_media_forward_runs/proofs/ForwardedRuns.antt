-- A whole run at an end that hears what is sent on.
use Rattle.std.proofs.Common.{◌≡◌, ℕ, zero, suc, ◌+◌, ◌-◌, ◌%◌, ◌<◌, refl, sym, ◌∙◌, ap, ap₂, subst, arith}
use Rattle.std.proofs.Common.{length-append, Bool, true, false, List, [], ◌∷◌, ◌++◌, length, map, Some, None}
use Rattle.std.specs.Prelude.{Ok, if◌then◌else◌, nat_lt, slice_index_or}
use Rattle.payload_core_base.specs.Format.{Format}
use Rattle.std.proofs.lemmas.Grind.{flat_map-append}
use Rattle.payload_core_base.specs.Outgoing.{Outgoing, all_outgoing}
use Rattle.payload_core_base.specs.Packing.{MarkedPacket}
use Rattle.rtp_wire.specs.Header.{layout_of}
use Rattle.rtp_wire.specs.declared.values.ExtensionValues.{ExtensionValues}
use Rattle.rtp_wire.proofs.HeaderLaws.{IsLayout-of}
use Rattle.rtp_media_schedules.specs.Hearing as hearing
use Rattle.payload_core_buffer.specs.Steps.{Answer}
use Rattle.rtp_media_schedules.specs.Hearing.{Comes, Content, EndsSilent, Stream, content_of, fresh}
use Rattle.payload_core_buffer.specs.Buffered.{Holding}
use Rattle.rtp_media_schedules.specs.Hearing.{handed_out, heard}
use Rattle.rtp_media_schedules.specs.Legal.{IsLegal}
use Rattle.rtp_media_schedules.specs.Orders.{IsSane, IsTame, first_size}
use Rattle.rtp_media_schedules.specs.SentSamples.{timed_unit}
use Rattle.rtp_media_schedules.specs.Samples.{SentSample, canonical_units, contents_by, datagrams, frame_sizes}
use Rattle.rtp_media_schedules.specs.Samples.{packets_of, whole_unit}
use Rattle.rtp_media_schedules.specs.Sending.{no_content, numbered}
use Rattle.rtp_media_schedules.specs.Turns as turns
use Rattle.rtp_media_schedules.specs.Turns.{Ask, Turn, event_of}
use Rattle.rtp_media_schedules.proofs.Samples.{exact-samples, legal-samples}
use Rattle.rtp_media_streams.specs.Receiving.{Receiving, opened_receiver, with_stream}
use Rattle.rtp_media_streams.specs.Rows.{format_of}
use Rattle.rtp_media_streams.specs.Sending.{Sending, IsTyped, IsTypedBy, carried, datagrams_from, header_of}
use Rattle.rtp_media_streams.proofs.Cutting.{length-datagrams_from}
use Rattle.rtp_media_streams.proofs.Sent.{writable}
use Rattle.rtp_media_ends.specs.Ends.{EndState, receiver_at}
use Rattle.rtp_media_ends.specs.OwnEvents.{event_in}
use Rattle.rtp_media_ends.specs.Repairs.{IsHeaded}
use Rattle.rtp_media_runs.specs.Runs.{AreForeign}
use Rattle.rtp_media_runs.specs.Schedules.{Source, is_repaired, played, poll_answers, turns_of}
use Rattle.rtp_media_runs.specs.declared.schedule.Event.{Event}
use Rattle.rtp_media_runs.specs.declared.schedule.Event.TheVariants.{Arrive, Foreign, Poll, Repair}
use Rattle.rtp_media_runs.proofs.Isolated.{isolated}
use Rattle.rtp_media_runs.proofs.WholeRuns.{AreBrought, IsHeard, events-are}
use Rattle.rtp_media_forward.specs.Relayed.{Part, count_of, relayed, relayed_sample, relayed_samples}
use Rattle.rtp_media_forward.specs.Forwarding.{shifted}
use Rattle.rtp_media_forward.proofs.Relayed.{are-sent, count-is}
use Rattle.rtp_media_forward_runs.specs.Hops.{IsPlain, values_by}
use Rattle.rtp_media_forward_runs.specs.Virtual.{payloads_of, virtual_datagrams}
use Rattle.rtp_media_forward_runs.proofs.Hops.{packet-read}
use Rattle.rtp_media_forward_runs.specs.ForwardedRuns.{AreWritable, HearsRelay, relay_of}

abbrev pub content_in : Sending → Outgoing → Content
content_in s o = content_of o.time o.marker (carried s o.values) o.payload

-- what is brought, place by place
pub brought-at : (s : Sending) (holding : Holding) (os : List Outgoing) (n i : ℕ) → IsPlain s → AreWritable os
    → i < length os
    → event_in (opened_receiver s.ssrc s.types s.map s.row holding) (slice_index_or (datagrams_from s n os) i [])
    ≡ Some (Comes ((n + i) % 65536) (slice_index_or (map (content_in s) os) i no_content))
brought-at s holding [] n i plain good lt = absurd (omega arith)
brought-at s holding (o ∷ os) n zero plain good lt =
    let e : n ≡ n + 0 = omega arith in
    packet-read s holding n o plain good.0 good.2 good.1
    ∙ ap (λ (k : ℕ). Some (Comes (k % 65536) (content_in s o))) e
brought-at s holding (o ∷ os) n (suc i) plain good lt =
    let e : n + 1 + i ≡ n + suc i = omega arith in
    brought-at s holding os (n + 1) i plain good.3 (omega arith)
    ∙ ap (λ (k : ℕ). Some (Comes (k % 65536) (slice_index_or (map (content_in s) os) i no_content))) e

headed-at : (s : Sending) (os : List Outgoing) (n i : ℕ) → IsPlain s → AreWritable os → i < length os
    → IsHeaded (slice_index_or (datagrams_from s n os) i [])
headed-at s [] n i plain good lt = absurd (omega arith)
headed-at s (o ∷ os) n zero plain good lt = record {
  layout = layout_of s.map (header_of s n o.marker o.time o.values);
  rest = o.payload;
  sound = IsLayout-of s.map (header_of s n o.marker o.time o.values)
      (writable s n o.marker o.time o.values (omega (arith, plain.wire_type, plain.payload_type)) plain.ssrc good.0
      good.2);
  is = refl;
}
headed-at s (o ∷ os) n (suc i) plain good lt = headed-at s os (n + 1) i plain good.3 (omega arith)

map-on : {A B : Type 0} (f : A → B) (xs ys : List A) → map f (xs ++ ys) ≡ map f xs ++ map f ys
map-on f [] ys = refl
map-on {B = B} f (x ∷ xs) ys = ap (λ (zs : List B). f x ∷ zs) (map-on f xs ys)

packets-are : (s : Sending) (own : ExtensionValues → ExtensionValues) (time : ℕ) (v : ExtensionValues)
    (ps : List MarkedPacket)
    → map (content_in s) (all_outgoing ps time (own v)) ≡ contents_by time (values_by s own v) ps
packets-are s own time v [] = refl
packets-are s own time v (p ∷ ps) =
    ap (λ (cs : List Content). content_of time p.marker (carried s (own v)) p.payload ∷ cs)
    (packets-are s own time v ps)

samples-are : (s : Sending) (own : ExtensionValues → ExtensionValues) (shift : ℕ) (ss : List SentSample)
    → map (content_in s) (payloads_of (map (relayed_sample own shift) ss))
    ≡ datagrams (map (relayed_sample (values_by s own) shift) ss)
samples-are s own shift [] = refl
samples-are s own shift (x ∷ xs) =
    map-on (content_in s) (all_outgoing x.packets (shifted shift x.time) (own x.values))
    (payloads_of (map (relayed_sample own shift) xs))
    ∙ ap₂ (λ (cs ds : List Content). cs ++ ds) (packets-are s own (shifted shift x.time) x.values x.packets)
    (samples-are s own shift xs)

-- contents of payloads
pub contents-are : (s : Sending) (own : ExtensionValues → ExtensionValues) (parts : List Part)
    → map (content_in s) (payloads_of (relayed own parts)) ≡ datagrams (relayed (values_by s own) parts)
contents-are s own [] = refl
contents-are s own (p ∷ ps) =
    ap (map (content_in s)) (flat_map-append (λ (x : SentSample). all_outgoing x.packets x.time x.values)
    (relayed_samples own p)
    (relayed own ps))
    ∙ map-on (content_in s) (payloads_of (relayed_samples own p)) (payloads_of (relayed own ps))
    ∙ ap₂ (λ (xs ys : List Content). xs ++ ys) (samples-are s own p.shift p.samples) (contents-are s own ps)
    ∙ sym (flat_map-append (λ (x : SentSample). contents_by x.time x.values x.packets)
    (relayed_samples (values_by s own) p) (relayed (values_by s own) ps))

-- how many there are
pub many : (s : Sending) (own : ExtensionValues → ExtensionValues) (first : ℕ) (parts : List Part)
    → length (virtual_datagrams s own first parts) ≡ count_of parts
many s own first parts =
    length-datagrams_from s first (payloads_of (relayed own parts)) ∙ payloads-many (relayed own parts)
    ∙ count-is own parts where
      outs : (ps : List MarkedPacket) (time : ℕ) (v : ExtensionValues) → length (all_outgoing ps time v) ≡ length ps
      outs [] time v = refl
      outs (p ∷ ps) time v = ap suc (outs ps time v)

      payloads-many : (ss : List SentSample) → length (payloads_of ss) ≡ length (packets_of ss)
      payloads-many [] = refl
      payloads-many (x ∷ xs) =
          length-append (all_outgoing x.packets x.time x.values) (payloads_of xs)
          ∙ ap₂ (λ (m n : ℕ). m + n) (outs x.packets x.time x.values) (payloads-many xs)
          ∙ sym (length-append x.packets (packets_of xs))

plain-typed : (s : Sending) → s.redundancy ≡ None → IsTyped s → s.wire_type ≡ s.types.pt
plain-typed s none typed = subst (IsTypedBy s.types s.wire_type) none typed

-- a poll more is a turn more
one-more : (b : Bool) (x : ℕ) (longer ts : List Turn) → longer ≡ ts ++ Ask ∷ []
    → (if b then turns.Arrive x ∷ longer else longer) ≡ (if b then turns.Arrive x ∷ ts else ts) ++ Ask ∷ []
one-more true x longer ts same = ap (λ (us : List Turn). turns.Arrive x ∷ us) same
one-more false x longer ts same = same

turns-more : (first count : ℕ) (f : ℕ → Bool) (xs : List Event) → turns_of first count f (xs ++ Poll ∷ [])
    ≡ turns_of first count f xs ++ Ask ∷ []
turns-more first count f [] = refl
turns-more first count f (Arrive k ∷ xs) = one-more (nat_lt k count) (first + k) _ _ (turns-more first count f xs)
turns-more first count f (Repair k ∷ xs) = one-more (f k) (first + k) _ _ (turns-more first count f xs)
turns-more first count f (Foreign d ∷ xs) = turns-more first count f xs
turns-more first count f (Poll ∷ xs) = ap (λ (ts : List Turn). Ask ∷ ts) (turns-more first count f xs)

module _ (e : EndState) (rx : ℕ) (holding : Holding) (s : Sending) (own : ExtensionValues → ExtensionValues) (first : ℕ)
    (parts : List Part) (hears : HearsRelay e rx holding s own first parts) where
  abbrev r : Receiving
  r = opened_receiver s.ssrc s.types s.map s.row holding

  abbrev samples : List SentSample
  samples = relayed (values_by s own) parts

  abbrev sender : ℕ → Content
  sender = numbered first (datagrams samples)

  abbrev os : List Outgoing
  os = payloads_of (relayed own parts)

  abbrev relay : Source
  relay = relay_of s own first parts

  plain : IsPlain s
  plain = record {
    wire_type = plain-typed s hears.plain hears.sender.typed;
    payload_type = hears.sender.payload_type;
    ssrc = hears.sender.ssrc;
  }

  brought : AreBrought r first sender relay.datagrams
  brought k lt =
      let back : first + k - first ≡ k = omega arith in
      brought-at s holding os first k plain hears.writable
      (omega (arith, lt, length-datagrams_from s first os))
      ∙ ap₂ (λ (cs : List Content) (i : ℕ). Some (Comes ((first + k) % 65536) (slice_index_or cs i no_content)))
      (contents-are s own parts) (sym back)

  is-heard : IsHeard r first sender (is_repaired relay) relay
  is-heard = record {
    brought = brought;
    headed = λ k lt. headed-at s os first k plain hears.writable
        (omega (arith, lt, length-datagrams_from s first os));
    takes = record { ssrc = refl; types = refl; beside = hears.sender.beside; number = hears.sender.repairs };
    repairs = λ k. refl;
  }

  same : receiver_at e rx ≡ with_stream r (receiver_at e rx).stream
  same = hears.receiver.stream_is
      ∙ ap (with_stream r) (sym (ap (λ (x : Receiving). x.stream) hears.receiver.stream_is))

  pub run-is : (xs : List Event) → AreForeign s.ssrc s.types xs → poll_answers (played relay rx e xs)
      ≡ heard (format_of s.row) (fresh holding)
      (map (event_of sender) (turns_of first (count_of parts) (is_repaired relay) xs))
  run-is xs foreign =
      isolated relay rx r xs e (record { same = same; known = hears.receiver.found })
      ∙ ap₂ (λ (t : Stream) (es : List hearing.Event). heard (format_of s.row) t es)
      (ap (λ (x : Receiving). x.stream) hears.receiver.stream_is)
      (events-are r first sender (is_repaired relay) xs relay is-heard foreign
      ∙ ap (λ (n : ℕ). map (event_of sender) (turns_of first n (is_repaired relay) xs)) (many s own first parts))

  pub legal-run : (xs : List Event) → AreForeign s.ssrc s.types xs
      → IsSane first (count_of parts) [] (turns_of first (count_of parts) (is_repaired relay) xs)
      → IsLegal (canonical_units first samples) (poll_answers (played relay rx e xs))
  legal-run xs foreign sane =
      let count : length (packets_of samples) ≡ count_of parts = count-is (values_by s own) parts in
      subst (λ (as' : List Answer). IsLegal (canonical_units first samples) as') (sym (run-is xs foreign))
      (legal-samples (format_of s.row) samples (are-sent (format_of s.row) (values_by s own) parts hears.read) holding
      first (turns_of first (count_of parts) (is_repaired relay) xs) (omega (arith, hears.numbers, count))
      (subst (λ (n : ℕ). IsSane first n [] (turns_of first (count_of parts) (is_repaired relay) xs)) (sym count) sane))

  pub exact-run : (xs : List Event) → AreForeign s.ssrc s.types (xs ++ Poll ∷ [])
      → IsTame first (count_of parts) holding (first_size (frame_sizes (format_of s.row) samples)) [] first
      (frame_sizes (format_of s.row) samples)
      (turns_of first (count_of parts) (is_repaired relay) (xs ++ Poll ∷ []))
      → EndsSilent (poll_answers (played relay rx e (xs ++ Poll ∷ [])))
      → map timed_unit (handed_out (poll_answers (played relay rx e (xs ++ Poll ∷ []))))
      ≡ map (λ c. Ok (whole_unit c)) (canonical_units first samples)
  exact-run xs foreign tame silent =
      let format : Format = format_of s.row in
      let sizes : List ℕ = frame_sizes format samples in
      let count : length (packets_of samples) ≡ count_of parts = count-is (values_by s own) parts in
      let ts : List Turn = turns_of first (count_of parts) (is_repaired relay) xs in
      let split : turns_of first (count_of parts) (is_repaired relay) (xs ++ Poll ∷ []) ≡ ts ++ Ask ∷ [] =
      turns-more first (count_of parts) (is_repaired relay) xs in
      let run : poll_answers (played relay rx e (xs ++ Poll ∷ []))
      ≡ heard format (fresh holding) (map (event_of sender) (ts ++ Ask ∷ [])) =
      run-is (xs ++ Poll ∷ []) foreign
      ∙ ap (λ (us : List Turn). heard format (fresh holding) (map (event_of sender) us)) split in
      let tame' : IsTame first (count_of parts) holding (first_size sizes) [] first sizes (ts ++ Ask ∷ []) =
      subst (λ (us : List Turn). IsTame first (count_of parts) holding (first_size sizes) [] first sizes us) split
      tame in
      ap (λ (as' : List Answer). map timed_unit (handed_out as')) run
      ∙ exact-samples format samples (are-sent format (values_by s own) parts hears.read) holding first ts
      (omega (arith, hears.numbers, count))
      (subst (λ (n : ℕ). IsTame first n holding (first_size sizes) [] first sizes (ts ++ Ask ∷ [])) (sym count) tame')
      (subst EndsSilent run silent)

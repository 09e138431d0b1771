-- Two publishers, a forwarder and a subscriber, of a codec that sends each sample in one packet.
use Rattle.std.proofs.Common.{◌≡◌, ℕ, ◌-◌, ◌^◌, ◌<◌, refl, sym, ◌∙◌, ap, ap₂, subst, arith, inl}
use Rattle.std.proofs.Common.{inr, Bool, true, List, [], ◌∷◌, ◌++◌, append-nil, length, map}
use Rattle.std.proofs.lemmas.List.{length-append}
use Rattle.std.specs.Prelude.{Some, if◌then◌else◌, slice_get}
use Rattle.std.specs.Prelude.{slice_index_or}
use Rattle.std.specs.Option.{option_map}
use Rattle.h26x_payload.specs.Dispatch.{FirstIsReached, KeepCodecLawInForms}
use Rattle.payload_core_base.specs.Format.{Format}
use Rattle.rtp_wire.specs.declared.values.ExtensionValues.{ExtensionValues}
use Rattle.rtp_media_schedules.specs.Hearing as hearing
use Rattle.rtp_media_schedules.specs.Hearing.{Content, EndsSilent, fresh, heard}
use Rattle.rtp_media_schedules.specs.Orders.{IsTame, first_size}
use Rattle.rtp_media_schedules.specs.Samples.{SentSample, canonical_units, datagrams, frame_sizes, packets_of}
use Rattle.rtp_media_schedules.specs.Samples.{whole_unit}
use Rattle.rtp_media_schedules.specs.SentSamples.{timed}
use Rattle.rtp_media_schedules.specs.Sending.{no_content, numbered}
use Rattle.rtp_media_schedules.specs.Turns as turns
use Rattle.rtp_media_schedules.specs.Turns.{Ask, Turn, event_of}
use Rattle.rtp_media_stream_table.specs.Arrivals.{Own, arrival_at}
use Rattle.rtp_media_streams.specs.Receiving.{Receiving, opened_receiver, with_stream}
use Rattle.rtp_media_streams.specs.Repairing.{repair}
use Rattle.rtp_media_streams.specs.Rows.{format_of}
use Rattle.rtp_media_streams.specs.Sending.{IsTypedBy, Sample, Sending, carried, datagram_of, datagrams_of}
use Rattle.rtp_media_streams.specs.Sending.{timestamp}
use Rattle.rtp_media_ends.specs.Ends.{EndState, after_open_receiver, receiver_at}
use Rattle.rtp_media_ends.specs.FullArrival.{count_of, sent_samples}
use Rattle.rtp_media_ends.specs.OwnEvents.{event_in}
use Rattle.rtp_media_ends.proofs.Exact.{all-theirs, brings}
use Rattle.rtp_media_ends.proofs.RepairedArrivals.{arrives}
use Rattle.rtp_media_runs.specs.Hops.{Carries, Hop, sender_over}
use Rattle.rtp_wire.specs.Carried.{AreValues}
use Rattle.rtp_media_runs.specs.Runs.{Hears}
use Rattle.rtp_media_runs.specs.Schedules.{is_made, is_repaired, played, poll_answers, turns_of}
use Rattle.rtp_media_runs.proofs.Exchanged as exchanged
use Rattle.rtp_media_runs.proofs.Values.{arriving-are-values}
use Rattle.rtp_media_forward.specs.Forwarding.{nothing_from, shift_to, shifted}
use Rattle.rtp_media_forward.specs.Relayed as forward
use Rattle.rtp_media_forward.specs.Relayed.{AreFrom, Part, relayed}
use Rattle.rtp_media_forward.specs.Steps.{IsRun, numbers_in}
use Rattle.rtp_media_forward_runs.specs.ForwardedRuns.{HearsRelay}
use Rattle.rtp_media_forward_runs.specs.Hops.{IsPlain, values_by}
use Rattle.rtp_media_forward_runs.specs.Rooms.{Form, IsRoomOf, Room, one_of, one_out, one_repair, other_of, other_out}
use Rattle.rtp_media_forward_runs.specs.Rooms.{parts_in, publications, relay_in, senders_in, steps_in, stream_in}
use Rattle.rtp_media_forward_runs.specs.Rooms.{time_over, units_in, values_from}
use Rattle.rtp_media_forward_runs.specs.Published.{ArePublished, unit_on, units_on}
use Rattle.rtp_media_forward_runs.specs.Virtual.{numbered_datagrams, virtual_datagrams}
use Rattle.rtp_media_forward_runs.proofs.ForwardedRuns.{run-is}
use Rattle.rtp_media_forward_runs.proofs.OneRepair.{is-made}
use Rattle.rtp_media_forward_runs.proofs.TwoDatagrams.{ends-silent, tame-two, two_turns}

-- a sample in one packet
abbrev pub only : Form → Sending → Sample → List SentSample
only form s x = record {
  time = timestamp s x.time;
  values = carried s x.values;
  packets = record { payload = form.front ++ x.bytes; marker = form.marker } ∷ [];
  units = (x.bytes ∷ []) ∷ [];
} ∷ []

-- a publisher's hop with its sample
pub record SendsOne (form : Form) (format : Format) (h : Hop) (x : Sample) : Type 0 where
  pub from_zero : (sender_over h).next ≡ 0
  pub sent : sent_samples (sender_over h) (x ∷ []) ≡ only form (sender_over h) x
  pub carries : Carries h (x ∷ [])
  pub format_is : format_of (sender_over h).row ≡ format
  pub some : 0 < length x.bytes
  pub values : AreValues x.values

-- what is known of a codec whose streams may be opened, and of its samples
pub record Sends (form : Form) (format : Format) (CarriesIt : Hop → Type 0)
    (Fits : Hop → Sample → Type 0) : Type 0 where
  pub ones : (h : Hop) (x : Sample) → CarriesIt h → Fits h x → SendsOne form format h x
  pub opened : (h : Hop) → CarriesIt h → Carries h []
  pub format_is : (h : Hop) → CarriesIt h → format_of (sender_over h).row ≡ format
  pub last_is_tail : (payload : List ℕ) → format.tail form.marker payload ≡ true

module _ (law : KeepCodecLawInForms) (reached : FirstIsReached) {form : Form} {format : Format} (h : Hop) (x : Sample)
    (one : SendsOne form format h x) where
  abbrev stream : Sending
  stream = sender_over h

  pub counted : count_of stream (x ∷ []) ≡ 1
  counted = ap (λ (ss : List SentSample). length (packets_of ss)) one.sent

  pub heard-one : Hears (after_open_receiver h.receiver h.mid h.ssrc h.pt h.holding) (length h.receiver.streams)
      h.holding stream (x ∷ [])
  heard-one = exchanged.hears law reached h.answer h.sender h.receiver h.mid h.ssrc h.pt h.params (x ∷ [])
      one.carries h.holding

  pub taken : arrival_at (after_open_receiver h.receiver h.mid h.ssrc h.pt h.holding).streams
      (slice_index_or (datagrams_of stream (x ∷ [])) 0 [])
      ≡ Own (length h.receiver.streams) 0 (time_over h x) form.marker (values_from h x) (form.front ++ x.bytes)
  taken =
      let e : EndState = after_open_receiver h.receiver h.mid h.ssrc h.pt h.holding in
      let n : ℕ = length h.receiver.streams in
      let r : Receiving = opened_receiver stream.ssrc stream.types stream.map stream.row h.holding in
      let back : 0 - stream.next ≡ 0 = omega (arith, one.from_zero) in
      let content : Content = numbered stream.next (datagrams (sent_samples stream (x ∷ []))) 0 in
      let same : receiver_at e n ≡ with_stream r (receiver_at e n).stream =
      heard-one.receiver.stream_is
      ∙ ap (with_stream r) (sym (ap (λ (y : Receiving). y.stream) heard-one.receiver.stream_is)) in
      let event : event_in r (slice_index_or (datagrams_of stream (x ∷ [])) 0 []) ≡ Some (hearing.Comes 0 content) =
      ap (λ (i : ℕ). event_in r (slice_index_or (datagrams_of stream (x ∷ [])) i [])) (sym back)
      ∙ brings stream r (x ∷ []) 0 (refl, refl, refl) heard-one.sender
      (all-theirs law stream (x ∷ []) heard-one.sender heard-one.sound) (omega (arith, one.from_zero))
      (omega (arith, one.from_zero, counted)) in
      arrives e n r same heard-one.receiver.found 0 content (slice_index_or (datagrams_of stream (x ∷ [])) 0 []) event
      ∙ ap₂ (λ (ss : List SentSample) (i : ℕ). let c : Content = slice_index_or (datagrams ss) i no_content in
      Own n 0 c.time c.marker c.values c.bytes) one.sent back

same-time : (t at : ℕ) → t < 2 ^ 32 → at < 2 ^ 32 → shifted (shift_to t at) t ≡ at
same-time t at small fits = omega (arith, small, fits)

module _ (law : KeepCodecLawInForms) (reached : FirstIsReached) {form : Form} {format : Format}
    {CarriesIt : Hop → Type 0} {Fits : Hop → Sample → Type 0} (sends : Sends form format CarriesIt Fits) (r : Room)
    (is : IsRoomOf form CarriesIt Fits r) where
  abbrev s : Sending
  s = stream_in r

  abbrev one : Sending
  one = sender_over r.one

  abbrev other : Sending
  other = sender_over r.other

  abbrev vs : ExtensionValues → ExtensionValues
  vs = values_by s r.own

  abbrev parts : List Part
  parts = parts_in r

  abbrev one_shift : ℕ
  one_shift = (one_of r).shift

  abbrev other_shift : ℕ
  other_shift = (other_of r).shift

  one_sends : SendsOne form format r.one r.one_sample
  one_sends = sends.ones r.one r.one_sample is.one is.one_fits

  other_sends : SendsOne form format r.other r.other_sample
  other_sends = sends.ones r.other r.other_sample is.other is.other_fits

  one-is : sent_samples one (r.one_sample ∷ []) ≡ only form one r.one_sample
  one-is = one_sends.sent

  other-is : sent_samples other (r.other_sample ∷ []) ≡ only form other r.other_sample
  other-is = other_sends.sent

  one-time : shifted one_shift (time_over r.one r.one_sample) ≡ time_over r.one r.one_sample
  one-time = same-time (time_over r.one r.one_sample) (time_over r.one r.one_sample) (omega arith) (omega arith)

  other-time : shifted other_shift (time_over r.other r.other_sample) ≡ r.at
  other-time = same-time (time_over r.other r.other_sample) r.at (omega arith) is.time

  one-count : count_of one (r.one_sample ∷ []) ≡ 1
  one-count = counted law reached r.one r.one_sample one_sends

  other-count : count_of other (r.other_sample ∷ []) ≡ 1
  other-count = counted law reached r.other r.other_sample other_sends

  pub two : forward.count_of parts ≡ 2
  two = omega (arith, one-count, other-count)

  -- what is asked of a subscriber
  abbrev pub opened : EndState
  opened = after_open_receiver r.onward.receiver r.onward.mid r.onward.ssrc r.onward.pt r.onward.holding

  abbrev pub rx : ℕ
  rx = length r.onward.receiver.streams

  pub onward-hears : Hears opened rx r.onward.holding s []
  onward-hears = exchanged.hears law reached r.onward.answer r.onward.sender r.onward.receiver r.onward.mid
      r.onward.ssrc
      r.onward.pt r.onward.params [] (sends.opened r.onward is.onward) r.onward.holding

  s-format : format_of s.row ≡ format
  s-format = sends.format_is r.onward is.onward

  pub published : ArePublished (format_of s.row) (publications r)
  published =
      let a = heard-one law reached r.one r.one_sample one_sends in
      let b = heard-one law reached r.other r.other_sample other_sends in (
        a.sender,
        a.sound,
        one_sends.format_is ∙ sym s-format,
        (b.sender, b.sound, other_sends.format_is ∙ sym s-format, tt),
      )

  -- the run
  pub from-them : AreFrom (senders_in r) parts
  from-them = ((λ x of. refl), ((λ x of. refl), tt))

  pub runs : IsRun (senders_in r) 0 [] (nothing_from 0) parts (steps_in r)
  runs =
      let one_zero : one.next ≡ 0 = one_sends.from_zero in
      let other_zero : other.next ≡ 0 = other_sends.from_zero in
      inr (
        refl,
        record { source_is = refl; first_is = one_zero; shift_is = refl },
        inl (
          (λ same from. omega (arith, one_zero, one-count)),
          inr (
            omega (arith, one-count),
            record { source_is = refl; first_is = other_zero; shift_is = refl },
            ((λ same from. omega (arith, other_zero, other-count)), tt),
          ),
        ),
      )

  -- what leaves
  pub datagrams-are : (relay_in r).datagrams ≡ datagram_of s 0 (one_out form r) ∷ datagram_of s 1 (other_out form r)
      ∷ []
  datagrams-are =
      ap₂ (λ (xs ys : List SentSample). virtual_datagrams s r.own 0
      (record { source = 1; first = one.next; shift = one_shift; samples = xs }
      ∷ record { source = 2; first = other.next; shift = other_shift; samples = ys } ∷ [])) one-is other-is
      ∙ ap₂ (λ (t u : ℕ). datagram_of s 0 (record (one_out form r) { time = t })
      ∷ datagram_of s 1 (record (other_out form r) { time = u }) ∷ []) one-time other-time

  pub left-are : (left : List (List ℕ))
      → left ≡ numbered_datagrams 0 (virtual_datagrams s r.own 0 parts)
      (numbers_in (senders_in r) (nothing_from 0) (steps_in r))
      → left ≡ datagram_of s 0 (one_out form r) ∷ datagram_of s 1 (other_out form r) ∷ []
  left-are left bytes =
      bytes ∙ ap (λ (ds : List (List ℕ)). slice_index_or ds 0 [] ∷ slice_index_or ds 1 [] ∷ []) datagrams-are

  -- the second one may be repaired
  plain : IsPlain s
  plain = record {
    wire_type = subst (IsTypedBy s.types s.wire_type) is.plain
        onward-hears.sender.typed;
    payload_type = onward-hears.sender.payload_type;
    ssrc = onward-hears.sender.ssrc;
  }

  made : is_repaired (relay_in r) 1 ≡ true
  made =
      ap (λ (ds : List (List ℕ)). is_made (option_map (repair s) (slice_get ds 1))) datagrams-are
      ∙ is-made s 1 (other_out form r) is.key plain is.plain is.repairs is.time
      (is.keeps (carried other r.other_sample.values)
      (arriving-are-values other.map r.other_sample.values other_sends.values))
      (omega (arith, length-append form.front r.other_sample.bytes, other_sends.some)) is.limit

  -- the schedule is tame
  abbrev samples : List SentSample
  samples = relayed vs parts

  sizes-are : frame_sizes (format_of s.row) samples ≡ 1 ∷ 1 ∷ []
  sizes-are =
      ap₂ (λ (f : Format) (ss : List SentSample). frame_sizes f ss) s-format
      (ap₂ (λ (xs ys : List SentSample). relayed vs
      (record { source = 1; first = one.next; shift = one_shift; samples = xs }
      ∷ record { source = 2; first = other.next; shift = other_shift; samples = ys } ∷ [])) one-is other-is)
      ∙ ap₂ (λ (a b : Bool). if a then 1 ∷ (if b then 1 ∷ [] else []) else (if b then 2 ∷ [] else []))
      (sends.last_is_tail (form.front ++ r.one_sample.bytes)) (sends.last_is_tail (form.front ++ r.other_sample.bytes))

  abbrev turns_by : ℕ → Bool → List Turn
  turns_by n b = turns_of 0 n (λ k. b) one_repair

  turns-are : turns_of 0 (forward.count_of parts) (is_repaired (relay_in r)) one_repair ≡ two_turns
  turns-are =
      ap (λ (n : ℕ). turns_of 0 n (is_repaired (relay_in r)) one_repair) two
      ∙ ap (λ (b : Bool). turns.Arrive 0 ∷ (if b then turns.Arrive 1 ∷ Ask ∷ Ask ∷ Ask ∷ [] else Ask ∷ Ask ∷ Ask ∷ []))
      made

  pub is-tame : IsTame 0 (forward.count_of parts) r.onward.holding
      (first_size (frame_sizes (format_of s.row) samples)) [] 0 (frame_sizes (format_of s.row) samples)
      (turns_of 0 (forward.count_of parts) (is_repaired (relay_in r)) one_repair)
  is-tame =
      subst (λ (zs : List ℕ). IsTame 0 (forward.count_of parts) r.onward.holding (first_size zs) [] 0 zs
      (turns_of 0 (forward.count_of parts) (is_repaired (relay_in r)) one_repair)) (sym sizes-are)
      (subst (λ (ts : List Turn). IsTame 0 (forward.count_of parts) r.onward.holding 1 [] 0 (1 ∷ 1 ∷ []) ts)
      (sym turns-are)
      (subst (λ (n : ℕ). IsTame 0 n r.onward.holding 1 [] 0 (1 ∷ 1 ∷ []) two_turns) (sym two)
      (tame-two r.onward.holding is.held)))

  pub is-silent : (hears : HearsRelay opened rx r.onward.holding s r.own 0 parts)
      → EndsSilent (poll_answers (played (relay_in r) rx opened one_repair))
  is-silent hears =
      let sender : ℕ → Content = numbered 0 (datagrams samples) in
      subst EndsSilent
      (sym (run-is opened rx r.onward.holding s r.own 0 parts hears one_repair tt
      ∙ ap (λ (ts : List Turn). heard (format_of s.row) (fresh r.onward.holding) (map (event_of sender) ts)) turns-are))
      (ends-silent (format_of s.row) r.onward.holding 0 1 (sender 0) (sender 1))

  -- the units
  pub units-are : units_on vs (publications r) ≡ units_in r
  units-are =
      ap₂ (λ (xs ys : List SentSample).
      map (unit_on vs one_shift) (map whole_unit (canonical_units one.next xs))
      ++ (map (unit_on vs other_shift) (map whole_unit (canonical_units other.next ys)) ++ [])) one-is other-is
      ∙ ap₂ (λ (xs ys : List ℕ).
      timed (shifted one_shift (time_over r.one r.one_sample)) (vs (carried one r.one_sample.values)) xs
      ∷ timed (shifted other_shift (time_over r.other r.other_sample)) (vs (carried other r.other_sample.values)) ys
      ∷ []) (append-nil r.one_sample.bytes) (append-nil r.other_sample.bytes)
      ∙ ap₂ (λ (t u : ℕ). timed t (vs (carried one r.one_sample.values)) r.one_sample.bytes
      ∷ timed u (vs (carried other r.other_sample.values)) r.other_sample.bytes ∷ []) one-time other-time

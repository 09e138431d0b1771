-- What a stream hears of a schedule of datagrams with redundancy.
use Rattle.std.proofs.Common.{◌≡◌, ℕ, zero, suc, ◌+◌, ◌-◌, ◌<◌, ◌≤◌, ◌^◌, refl, sym, ◌∙◌, ap, ap₂, subst, arith, Bool}
use Rattle.std.proofs.Common.{List, [], ◌∷◌, length, Option, Some, None, inl, inr}
use Rattle.std.specs.List.{cons_option}
use Rattle.std.specs.Prelude.{is_some, option_and_then, slice_get, slice_index_or}
use Rattle.std.proofs.lemmas.Bool.{cases_lt}
use Rattle.std.proofs.lemmas.List.Elements.{All-cons, All-nil}
use Rattle.payload_core_base.specs.Packing.{Sender}
use Rattle.h26x_payload.specs.Dispatch.{FirstIsReached, KeepCodecLawInForms}
use Rattle.rtp_wire.specs.Values.{Numbering}
use Rattle.rtp_media_schedules.specs.Hearing as hearing
use Rattle.rtp_media_schedules.specs.Hearing.{heard}
use Rattle.rtp_media_schedules.specs.SentSamples.{Timed}
use Rattle.rtp_media_schedules.specs.Samples.{AreWellFormed, SentSample, packets_of, sent_by}
use Rattle.rtp_media_streams.specs.Receiving.{Receiving, opened_receiver, with_stream}
use Rattle.rtp_media_streams.specs.Rows.{coding_in, first_state, format_of}
use Rattle.rtp_media_streams.specs.Sending.{Sample, Sending, datagrams_of, opened_sender, packet_limit}
use Rattle.rtp_media_streams.specs.Sending.{payloads_of_samples, wire_payloads}
use Rattle.rtp_media_streams.specs.declared.row_format.RowFormat.{RowFormat}
use Rattle.rtp_media_streams.proofs.Cutting.{length-datagrams_from, length-on_wire}
use Rattle.rtp_media_streams.proofs.Sent.{datagrams_of-consecutive}
use Rattle.rtp_media_ends.specs.Ends.{EndState, after_open_receiver, agreed_red, sender_types, receiver_at}
use Rattle.rtp_media_ends.specs.Ends.{with_distances}
use Rattle.rtp_media_ends.specs.FullArrival.{AreSound, IsFound, IsSender, coding_of, count_of, sent_samples}
use Rattle.rtp_media_ends.specs.OwnEvents.{event_in}
use Rattle.rtp_media_ends.specs.Transparency.{AreTwins, Receives}
use Rattle.rtp_media_ends.specs.declared.StreamParams.{StreamParams}
use Rattle.rtp_media_ends.proofs.Datagrams.{AreTheirs}
use Rattle.rtp_media_ends.proofs.Exact.{all-theirs}
use Rattle.rtp_media_ends.proofs.Transparent.{transparent}
use Rattle.rtp_media_runs.specs.Runs.{Hears}
use Rattle.rtp_media_runs.specs.Schedules.{own_events, played, poll_answers, source_of}
use Rattle.rtp_media_runs.specs.Units.{arriving}
use Rattle.rtp_media_runs.specs.declared.schedule.Event.{Event}
use Rattle.rtp_media_runs.specs.declared.schedule.Event.TheVariants.{Arrive, Foreign, Poll, Repair}
use Rattle.rtp_media_runs.proofs.Exchanged.{hears, new-is-sender, plain}
use Rattle.rtp_media_runs.proofs.Isolated.{isolated}
use Rattle.rtp_media_runs.specs.Hops.{Carries, Hop, answers_over, map_over, row_over, sender_over}
use Rattle.rtp_media_runs.specs.Redundancy.{AddsRedundancy, HasNoRepair, opened_with}
use Rattle.rtp_media_runs.proofs.Passed.{samples-arrive}

one-option : {A : Type 0} (a b : Option A) → cons_option a [] ≡ cons_option b [] → a ≡ b
one-option None None e = refl
one-option None (Some y) e = absurd (cc)
one-option (Some x) None e = absurd (cc)
one-option (Some x) (Some y) e = let same : x ≡ y = cc in ap Some same

get-some : (ds : List (List ℕ)) (k : ℕ) → k < length ds → slice_get ds k ≡ Some (slice_index_or ds k [])
get-some [] k lt = absurd (omega arith)
get-some (d ∷ ds) zero lt = refl
get-some (d ∷ ds) (suc k) lt = get-some ds k (omega arith)

get-none : (ds : List (List ℕ)) (k : ℕ) → length ds ≤ k → slice_get ds k ≡ None
get-none [] k le = refl
get-none (d ∷ ds) zero le = absurd (omega arith)
get-none (d ∷ ds) (suc k) le = get-none ds k (omega arith)

module _ (law : KeepCodecLawInForms) (s t : Sending) (r : Receiving) (xs : List Sample) (twins : AreTwins s t)
    (for : Receives r s) (sound : AreSound s xs) where
  same-sent : sent_samples t xs ≡ sent_samples s xs
  same-sent =
      ap (λ (ts : List Timed). sent_by (coding_in t.row t.has_id t.for_browsers) (packet_limit t) t.packetizer ts)
      (samples-arrive t xs)
      ∙ ap₂ (λ (row : RowFormat) (m : Numbering). sent_by (coding_in row t.has_id t.for_browsers) (packet_limit t)
      t.packetizer (arriving row m xs)) twins.row twins.map
      ∙ ap₂ (λ (id b : Bool). sent_by (coding_in s.row id b) (packet_limit t) t.packetizer
      (arriving s.row s.map xs)) twins.has_id twins.for_browsers
      ∙ ap₂ (λ (n : ℕ) (p : Sender). sent_by (coding_in s.row s.has_id s.for_browsers) n p
      (arriving s.row s.map xs)) twins.packets twins.packetizer
      ∙ ap (λ (ts : List Timed). sent_by (coding_in s.row s.has_id s.for_browsers) (packet_limit s) s.packetizer ts)
      (sym (samples-arrive s xs))

  same-count : count_of t xs ≡ count_of s xs
  same-count = ap (λ (ss : List SentSample). length (packets_of ss)) same-sent

  still-sound : AreSound t xs
  still-sound =
      let W : RowFormat → Bool → Bool → ℕ → Numbering → Type 0 =
      λ r i b n k. AreWellFormed (coding_in r i b) n (arriving r k xs) in
      let a : W s.row s.has_id s.for_browsers (packet_limit s) s.map =
      subst (λ (ts : List Timed). AreWellFormed (coding_of s) (packet_limit s) ts) (samples-arrive s xs)
      sound.well_formed in
      let b : W t.row s.has_id s.for_browsers (packet_limit s) s.map =
      subst (λ (r : RowFormat). W r s.has_id s.for_browsers (packet_limit s) s.map) (sym twins.row) a in
      let c : W t.row t.has_id s.for_browsers (packet_limit s) s.map =
      subst (λ (i : Bool). W t.row i s.for_browsers (packet_limit s) s.map) (sym twins.has_id) b in
      let d : W t.row t.has_id t.for_browsers (packet_limit s) s.map =
      subst (λ (f : Bool). W t.row t.has_id f (packet_limit s) s.map) (sym twins.for_browsers) c in
      let e : W t.row t.has_id t.for_browsers (packet_limit t) s.map =
      subst (λ (n : ℕ). W t.row t.has_id t.for_browsers n s.map) (sym twins.packets) d in
      let f : W t.row t.has_id t.for_browsers (packet_limit t) t.map =
      subst (λ (k : Numbering). W t.row t.has_id t.for_browsers (packet_limit t) k) (sym twins.map) e in
      record {
        well_formed =
            subst (λ (ts : List Timed). AreWellFormed (coding_of t) (packet_limit t) ts) (sym (samples-arrive t xs)) f;
        values = sound.values;
      }

  as-many : (u : Sending) → IsSender u → AreSound u xs → length (datagrams_of u xs) ≡ count_of u xs
  as-many u is good =
      let are : AreTheirs u xs = all-theirs law u xs is good in
      ap length (datagrams_of-consecutive xs u)
      ∙ length-datagrams_from u u.next (wire_payloads u (payloads_of_samples u xs))
      ∙ length-on_wire u.types.pt u.mtu u.redundancy (payloads_of_samples u xs) ∙ are.count

  many-plain : length (datagrams_of s xs) ≡ count_of s xs
  many-plain = as-many s twins.plain_sound sound

  many-redundant : length (datagrams_of t xs) ≡ count_of s xs
  many-redundant = as-many t twins.redundant_sound still-sound ∙ same-count

  -- the datagram of a place is the same event
  same-at : (k : ℕ) → k < count_of s xs
      → event_in r (slice_index_or (datagrams_of t xs) k []) ≡ event_in r (slice_index_or (datagrams_of s xs) k [])
  same-at k lt =
      let n : ℕ = s.next + k in
      let plain_place : n - s.next ≡ k = omega arith in
      let redundant_place : n - t.next ≡ k = omega (arith, twins.next) in
      let both = one-option (event_in r (slice_index_or (datagrams_of t xs) (n - t.next) []))
      (event_in r (slice_index_or (datagrams_of s xs) (n - s.next) []))
      (transparent law s t r xs (n ∷ []) twins for (record {
        sound = sound;
        in_range = All-cons (λ (x : ℕ). (s.next ≤ x) × (x < s.next + count_of s xs)) n []
            (omega arith, omega arith) (All-nil _);
      })) in
      ap (λ (i : ℕ). event_in r (slice_index_or (datagrams_of t xs) i [])) (sym redundant_place) ∙ both
      ∙ ap (λ (i : ℕ). event_in r (slice_index_or (datagrams_of s xs) i [])) plain_place

  same-arrival : (k : ℕ) → option_and_then (event_in r) (slice_get (datagrams_of t xs) k)
      ≡ option_and_then (event_in r) (slice_get (datagrams_of s xs) k)
  same-arrival k = elim (cases_lt k (count_of s xs)) [
    | inl lt ↦
        ap (option_and_then (event_in r)) (get-some (datagrams_of t xs) k (omega (arith, lt, many-redundant)))
        ∙ same-at k lt
        ∙ ap (option_and_then (event_in r)) (sym (get-some (datagrams_of s xs) k (omega (arith, lt, many-plain))))
    | inr ge ↦
        ap (option_and_then (event_in r))
        (get-none (datagrams_of t xs) k (omega (arith, ge, many-redundant))
        ∙ sym (get-none (datagrams_of s xs) k (omega (arith, ge, many-plain))))
  ]

  same-events : (schedule : List Event) → HasNoRepair schedule → own_events (source_of t xs) r schedule
      ≡ own_events (source_of s xs) r schedule
  same-events [] none = refl
  same-events (Arrive k ∷ es) none = ap₂ (λ (o : Option hearing.Event) (hs : List hearing.Event). cons_option o hs)
      (same-arrival k) (same-events es none)
  same-events (Repair k ∷ es) none = absurd none
  same-events (Foreign d ∷ es) none =
      ap (λ (hs : List hearing.Event). cons_option (event_in r d) hs) (same-events es none)
  same-events (Poll ∷ es) none = ap (λ (hs : List hearing.Event). hearing.Poll ∷ hs) (same-events es none)

  -- the answers to the polls are the same
  pub same-answers : (e : EndState) (rx : ℕ) (schedule : List Event) → receiver_at e rx ≡ r → IsFound e rx r
      → HasNoRepair schedule → poll_answers (played (source_of t xs) rx e schedule)
      ≡ poll_answers (played (source_of s xs) rx e schedule)
  same-answers e rx schedule is found none =
      let same : receiver_at e rx ≡ with_stream r (receiver_at e rx).stream =
      is ∙ ap (with_stream r) (sym (ap (λ (x : Receiving). x.stream) is)) in
      isolated (source_of t xs) rx r schedule e (record { same = same; known = found })
      ∙ ap (heard (format_of r.row) (receiver_at e rx).stream) (same-events schedule none)
      ∙ sym (isolated (source_of s xs) rx r schedule e (record { same = same; known = found }))

-- a stream without redundancy adds none
plain-adds-none : (h : Hop) (p : StreamParams) → p.red ≡ None → (sender_over (opened_with h p)).redundancy ≡ None
plain-adds-none h p none =
    let s : Sending = opened_sender h.ssrc (sender_types h.sender h.mid h.ssrc h.pt) (map_over h)
    (row_over h) p.picture_id
    p.for_browsers p.first p.mtu p.limit in
    ap (λ (d : Option (List ℕ)). (with_distances s (agreed_red h.sender h.mid h.pt) d).redundancy) none

-- between two ends that exchanged texts
pub same-over : KeepCodecLawInForms → FirstIsReached → (h : Hop) (p q : StreamParams) (xs : List Sample)
    (schedule : List Event) → AddsRedundancy h p q → Carries (opened_with h p) xs → HasNoRepair schedule
    → answers_over (opened_with h q) xs schedule ≡ answers_over (opened_with h p) xs schedule
same-over law first h p q xs schedule adds to unrepaired =
    let s : Sending = sender_over (opened_with h p) in
    let t : Sending = sender_over (opened_with h q) in
    let e : EndState = after_open_receiver h.receiver h.mid h.ssrc h.pt h.holding in
    let n : ℕ = length h.receiver.streams in
    let small : q.first + 0 ≤ 2 ^ 62 = omega (arith, adds.sound.first) in
    let none : Carries (opened_with h q) [] = record {
      exchanged = to.exchanged;
      sends = to.sends;
      receives = to.receives;
      ssrc_fits = to.ssrc_fits;
      repair_fits = to.repair_fits;
      sound_params = adds.sound;
      sound_samples = record { well_formed = tt; values = All-nil _ };
      numbers = small;
    } in
    let a = plain law first h.answer h.sender h.receiver h.mid h.ssrc h.pt p xs to in
    let b = plain law first h.answer h.sender h.receiver h.mid h.ssrc h.pt q [] none in
    let twins : AreTwins s t = record {
      ssrc = b.ssrc ∙ sym a.ssrc;
      types = b.types ∙ sym a.types;
      map = b.map ∙ sym a.map;
      row = b.row ∙ sym a.row;
      has_id = b.has_id ∙ ap (λ (id : Option ℕ). is_some id) adds.picture_id ∙ sym a.has_id;
      for_browsers = b.for_browsers ∙ adds.for_browsers ∙ sym a.for_browsers;
      next = b.next ∙ adds.first ∙ sym a.next;
      packets = b.limit_is ∙ adds.packets ∙ sym a.limit_is;
      packetizer = b.packetizer ∙ ap (first_state (row_over h)) adds.picture_id ∙ sym a.packetizer;
      none = plain-adds-none h p adds.none;
      plain_sound = new-is-sender first h.sender h.mid h.ssrc h.pt p to.sends to.ssrc_fits to.repair_fits
          to.sound_params;
      redundant_sound = new-is-sender first h.sender h.mid h.ssrc h.pt q to.sends to.ssrc_fits to.repair_fits
          adds.sound;
    } in
    let hear : Hears e n h.holding s xs =
    hears law first h.answer h.sender h.receiver h.mid h.ssrc h.pt p xs to h.holding in
    same-answers law s t (opened_receiver s.ssrc s.types s.map s.row h.holding) xs twins
    (record { ssrc = refl; types = refl; map = refl }) to.sound_samples e n schedule hear.receiver.stream_is
    hear.receiver.found unrepaired

-- The repair of a datagram that came already is refused, and the end stays as it is.
use Rattle.std.proofs.Common.{◌≡◌, ℕ, zero, suc, ◌+◌, ◌%◌, ◌<◌, refl, sym, ◌∙◌, ap, ap₂, subst, arith, Bool}
use Rattle.std.proofs.Common.{true, false, true≢false, ◌||◌, List, [], ◌∷◌, ◌++◌, length, map, Option, Some, None}
use Rattle.std.proofs.Common.{Result, Ok, Err, inl, inr}
use Rattle.std.proofs.lemmas.Bool.Decides.{nat_tests}
use Rattle.std.specs.Option.{option_map}
use Rattle.std.specs.Prelude.{◌==◌, ◌⊎◌, if◌then◌else◌, nat_lt, slice_get, slice_set}
use Rattle.h26x_payload.specs.Dispatch.{KeepCodecLawInForms}
use Rattle.rtp_wire.specs.Replay.{is_accepted}
use Rattle.rtp_media_schedules.specs.Hearing.{Comes, Content, Stream, after_events, fresh, number_at}
use Rattle.payload_core_buffer.specs.Buffered.{Holding}
use Rattle.rtp_media_schedules.specs.Orders.{IsSane}
use Rattle.rtp_media_schedules.specs.TrueNumbers.{arrived}
use Rattle.rtp_media_schedules.specs.Turns as turns
use Rattle.rtp_media_schedules.specs.Turns.{Ask, Turn, event_of, is_among}
use Rattle.rtp_media_runs.proofs.Repeats.{refused}
use Rattle.rtp_media_streams.specs.Receiving.{Receiving, opened_receiver, with_stream}
use Rattle.rtp_media_streams.specs.Receiving as receiving
use Rattle.rtp_media_streams.specs.Repairing.{repair}
use Rattle.rtp_media_streams.specs.Sending.{Sample, Sending}
use Rattle.rtp_media_streams.specs.declared.types.PayloadTypes.{PayloadTypes}
use Rattle.payload_core_base.specs.Format.{Format}
use Rattle.rtp_media_schedules.specs.Samples.{datagrams}
use Rattle.rtp_media_schedules.specs.Sending.{numbered}
use Rattle.rtp_media_streams.specs.Rows.{format_of}
use Rattle.rtp_media_streams.specs.declared.errors.RepairError.{RepairError}
use Rattle.rtp_media_stream_table.specs.Arrivals.{Own, arrival_at, verdict_in, verdict_on}
use Rattle.rtp_media_stream_table.specs.Streams.{is_receiving, nth_receiver, nth_stream, set_receiver}
use Rattle.rtp_media_stream_table.specs.declared.open_stream.OpenStream.{OpenStream}
use Rattle.rtp_media_stream_table.specs.declared.open_stream.OpenStream.TheVariants.{Closed, Receiver, Sender}
use Rattle.rtp_media_stream_table.specs.declared.received.Received.{Received}
use Rattle.rtp_media_stream_table.specs.declared.received.Received.TheVariants as verdict
use Rattle.rtp_media_ends.specs.EndArrivals.{after_arrival, after_datagram, verdict_of}
use Rattle.rtp_media_ends.specs.Ends.{EndState, receiver_at}
use Rattle.rtp_media_ends.specs.FullArrival.{count_of, sent_samples}
use Rattle.rtp_media_ends.specs.OwnEvents.{event_in}
use Rattle.rtp_media_ends.proofs.Isolation.{is-receiving}
use Rattle.rtp_media_ends.proofs.RepairedArrivals.{arrives}
use Rattle.rtp_media_runs.specs.Runs.{AreForeign, Hears, IsSaneSchedule, turns_at}
use Rattle.rtp_media_runs.specs.Schedules.{Source, after_bytes, after_event, after_schedule, answers_on, answers_to}
use Rattle.rtp_media_runs.specs.Schedules.{bytes_of, has_come, is_made, is_repaired, repair_at, source_after}
use Rattle.rtp_media_runs.specs.Schedules.{source_after_all, source_of, turns_of}
use Rattle.rtp_media_runs.specs.declared.schedule.Event.{Event}
use Rattle.rtp_media_runs.specs.declared.schedule.Event.TheVariants.{Arrive, Foreign, Poll, Repair}
use Rattle.rtp_media_runs.specs.declared.schedule.Played.TheVariants as played
use Rattle.rtp_media_runs.proofs.Isolated.{IsAfter, after-isolated}
use Rattle.rtp_media_runs.proofs.WholeRuns as whole
use Rattle.rtp_media_runs.proofs.WholeRuns.{IsHeard, events-are, heard-after, many-datagrams, repair-brings}

-- what a run is like that ends by one event more
foreign-front : (ssrc : ℕ) (types : PayloadTypes) (xs : List Event) (k : ℕ)
    → AreForeign ssrc types (xs ++ Repair k ∷ []) → AreForeign ssrc types xs
foreign-front ssrc types [] k foreign = tt
foreign-front ssrc types (Arrive i ∷ xs) k foreign = foreign-front ssrc types xs k foreign
foreign-front ssrc types (Repair i ∷ xs) k foreign = foreign-front ssrc types xs k foreign
foreign-front ssrc types (Foreign d ∷ xs) k foreign = (foreign.0, foreign-front ssrc types xs k foreign.1)
foreign-front ssrc types (Poll ∷ xs) k foreign = foreign-front ssrc types xs k foreign

one-more : (b : Bool) (x : ℕ) (longer ts us : List Turn) → longer ≡ ts ++ us
    → (if b then turns.Arrive x ∷ longer else longer) ≡ (if b then turns.Arrive x ∷ ts else ts) ++ us
one-more true x longer ts us same = ap (λ (vs : List Turn). turns.Arrive x ∷ vs) same
one-more false x longer ts us same = same

module _ (first count k : ℕ) (f : ℕ → Bool) (made : f k ≡ true) where
  turns-front : (xs : List Event) → turns_of first count f (xs ++ Repair k ∷ [])
      ≡ turns_of first count f xs ++ turns.Arrive (first + k) ∷ []
  turns-front [] = ap (λ (b : Bool). if b then turns.Arrive (first + k) ∷ [] else []) made
  turns-front (Arrive i ∷ xs) = one-more (nat_lt i count) (first + i) _ _ _ (turns-front xs)
  turns-front (Repair i ∷ xs) = one-more (f i) (first + i) _ _ _ (turns-front xs)
  turns-front (Foreign d ∷ xs) = turns-front xs
  turns-front (Poll ∷ xs) = ap (λ (ts : List Turn). Ask ∷ ts) (turns-front xs)

  still-among : (ts : List Turn) (past : List ℕ) (x : ℕ) → is_among past x ≡ true → is_among (arrived past ts) x ≡ true
  still-among [] past x among = among
  still-among (turns.Arrive y ∷ ts) past x among = still-among ts (y ∷ past) x (also (x == y) (is_among past x) among)
    where
      also : (a b : Bool) → b ≡ true → (a || b) ≡ true
      also true b h = refl
      also false b h = h
  still-among (Ask ∷ ts) past x among = still-among ts past x among

  this : (b : Bool) (i : ℕ) (past : List ℕ) (ts : List Turn) → b ≡ true → (i == k) ≡ true
      → is_among (arrived past (if b then turns.Arrive (first + i) ∷ ts else ts)) (first + k) ≡ true
  this true i past ts e same = still-among ts ((first + i) ∷ past) (first + k) (grind (arith, nat_tests, same))
  this false i past ts e same = absurd (true≢false (sym e))

  later : (b : Bool) (i : ℕ) (past : List ℕ) (ts : List Turn)
      → ((p : List ℕ) → is_among (arrived p ts) (first + k) ≡ true)
      → is_among (arrived past (if b then turns.Arrive (first + i) ∷ ts else ts)) (first + k) ≡ true
  later true i past ts all = all ((first + i) ∷ past)
  later false i past ts all = all past

  either : (a b : Bool) → (a || b) ≡ true → (a ≡ true) ⊎ (b ≡ true)
  either true b h = inl refl
  either false b h = inr h

  arrives-there : (i : ℕ) → k < count → (i == k) ≡ true → nat_lt i count ≡ true
  arrives-there i lt same = grind (arith, nat_tests, same, lt)

  makes-there : (i : ℕ) → (i == k) ≡ true → f i ≡ true
  makes-there i same = let is : i ≡ k = grind (arith, nat_tests, same) in ap f is ∙ made

  -- what came is among the numbers that arrived
  among-turns : (xs : List Event) (past : List ℕ) → k < count → has_come k xs ≡ true
      → is_among (arrived past (turns_of first count f xs)) (first + k) ≡ true
  among-turns [] past lt came = absurd (true≢false (sym came))
  among-turns (Arrive i ∷ xs) past lt came = elim (either (i == k) (has_come k xs) came) [
    | inl same ↦ this (nat_lt i count) i past (turns_of first count f xs) (arrives-there i lt same) same
    | inr came_later ↦
        later (nat_lt i count) i past (turns_of first count f xs) (λ (p : List ℕ). among-turns xs p lt came_later)
  ]
  among-turns (Repair i ∷ xs) past lt came = elim (either (i == k) (has_come k xs) came) [
    | inl same ↦ this (f i) i past (turns_of first count f xs) (makes-there i same) same
    | inr came_later ↦ later (f i) i past (turns_of first count f xs) (λ (p : List ℕ). among-turns xs p lt came_later)
  ]
  among-turns (Foreign d ∷ xs) past lt came = among-turns xs past lt came
  among-turns (Poll ∷ xs) past lt came = among-turns xs past lt came

-- what is repaired is there
made-within : (t : Sending) (ds : List (List ℕ)) (k : ℕ) → is_made (option_map (repair t) (slice_get ds k)) ≡ true
    → k < length ds
made-within t [] k made = absurd (true≢false (sym made))
made-within t (d ∷ ds) zero made = omega arith
made-within t (d ∷ ds) (suc k) made = let lt : k < length ds = made-within t ds k made in omega (arith, lt)

-- a receiving stream put back in its place
put-back : (ss : List OpenStream) (n : ℕ) → is_receiving (nth_stream ss n) ≡ true
    → slice_set ss n (Receiver (nth_receiver ss n)) ≡ ss
put-back [] n h = refl
put-back (Sender s ∷ ss) zero h = absurd (true≢false (sym h))
put-back (Closed ∷ ss) zero h = absurd (true≢false (sym h))
put-back (Receiver r ∷ ss) zero h = refl
put-back (x ∷ ss) (suc n) h = ap (λ (ys : List OpenStream). x ∷ ys) (put-back ss n h)

-- an arrival that the window doesn't accept
module _ (e : EndState) (n low : ℕ) (c : Content) (receives : is_receiving (nth_stream e.streams n) ≡ true)
    (seen : is_accepted (receiver_at e n).stream.window (number_at (receiver_at e n).stream low) ≡ false) where
  abbrev stream : Stream
  stream = (receiver_at e n).stream

  says-refused : (d : List ℕ) → arrival_at e.streams d ≡ Own n low c.time c.marker c.values c.bytes
      → verdict_of e d ≡ verdict.Refused
  says-refused d is = ap (verdict_in e.streams) is
      ∙ ap (λ (b : Bool). verdict_on n (if b then Some (number_at stream low) else None)) seen

  if-else : {A : Type 0} (b : Bool) (x y : A) → b ≡ false → (if b then x else y) ≡ y
  if-else true x y h = absurd (true≢false h)
  if-else false x y h = refl

  stream-stays : receiving.arrived stream low c.time c.marker c.values c.bytes ≡ stream
  stream-stays = if-else (is_accepted stream.window (number_at stream low)) _ stream seen

  end-stays : (d : List ℕ) → arrival_at e.streams d ≡ Own n low c.time c.marker c.values c.bytes
      → after_datagram e d ≡ e
  end-stays d is = ap (after_arrival e) is
      ∙ ap (λ (t : Stream). record e { streams = set_receiver e.streams n (with_stream (receiver_at e n) t) })
      stream-stays
      ∙ ap (λ (ss : List OpenStream). record e { streams = ss }) (put-back e.streams n receives)

-- all repairs of a schedule leave what later ones are made by
heard-all : (r : Receiving) (first : ℕ) (sender : turns.Sender) (f : ℕ → Bool) (xs : List Event) (sent : Source)
    → IsHeard r first sender f sent → IsHeard r first sender f (source_after_all sent xs)
heard-all r first sender f [] sent is = is
heard-all r first sender f (Arrive k ∷ xs) sent is = heard-all r first sender f xs sent is
heard-all r first sender f (Repair k ∷ xs) sent is =
    heard-all r first sender f xs (source_after sent (Repair k)) (heard-after r first sender f sent k is)
heard-all r first sender f (Foreign d ∷ xs) sent is = heard-all r first sender f xs sent is
heard-all r first sender f (Poll ∷ xs) sent is = heard-all r first sender f xs sent is

module _ (law : KeepCodecLawInForms) (e : EndState) (rx : ℕ) (holding : Holding) (s : Sending) (samples : List Sample)
    (before : List Event) (k : ℕ) (hears : Hears e rx holding s samples)
    (sane : IsSaneSchedule s samples (before ++ Repair k ∷ [])) (came : has_come k before ≡ true)
    (made : is_repaired (source_of s samples) k ≡ true) where
  abbrev r : Receiving
  r = opened_receiver s.ssrc s.types s.map s.row holding

  abbrev format : Format
  format = format_of s.row

  abbrev sender : turns.Sender
  sender = numbered s.next (datagrams (sent_samples s samples))

  abbrev sent : Source
  sent = source_of s samples

  abbrev f : ℕ → Bool
  f = is_repaired sent

  abbrev ts : List Turn
  ts = turns_at s samples before

  abbrev now : EndState
  now = after_schedule sent rx e before

  abbrev later-source : Source
  later-source = source_after_all sent before

  is : IsHeard r s.next sender f sent
  is = whole.is-heard law e rx holding s samples hears

  many : length sent.datagrams ≡ count_of s samples
  many = many-datagrams s samples (whole.are law e rx holding s samples hears)

  lt : k < count_of s samples
  lt = let in_list : k < length sent.datagrams = made-within sent.stream sent.datagrams k made in
      omega (arith, many, in_list)

  -- the stream by then
  after : IsAfter sent rx r before e
  after = after-isolated before sent rx r e (record {
    same = whole.same law e rx holding s samples hears;
    known = hears.receiver.found;
  })

  stream-is : (receiver_at now rx).stream ≡ after_events format (fresh holding) (map (event_of sender) ts)
  stream-is =
      after.stream
      ∙ ap₂ (after_events format) (ap (λ (x : Receiving). x.stream) hears.receiver.stream_is)
      (events-are r s.next sender f before sent is (foreign-front s.ssrc s.types before k sane.foreign)
      ∙ ap (λ (n : ℕ). map (event_of sender) (turns_of s.next n f before)) many)

  seen : is_accepted (receiver_at now rx).stream.window
      (number_at (receiver_at now rx).stream ((s.next + k) % 65536)) ≡ false
  seen = subst (λ (t : Stream). is_accepted t.window (number_at t ((s.next + k) % 65536)) ≡ false) (sym stream-is)
      (refused format sender holding s.next (count_of s samples) (s.next + k) ts hears.numbers
      (subst (IsSane s.next (count_of s samples) [])
      (turns-front s.next (count_of s samples) k f made before) sane.order)
      (among-turns s.next (count_of s samples) k f made before [] lt came))

  -- what comes of the repair
  on-repair : (o : Option (Result (List ℕ) RepairError)) → repair_at later-source k ≡ o → is_made o ≡ true
      → (answers_on now o ≡ played.Received verdict.Refused ∷ []) × (after_bytes now (bytes_of o) ≡ now)
  on-repair None e is_one = absurd (true≢false (sym is_one))
  on-repair (Some (Err x)) e is_one = absurd (true≢false (sym is_one))
  on-repair (Some (Ok bytes)) e is_one =
      let low : ℕ = (s.next + k) % 65536 in
      let c : Content = sender (s.next + k) in
      let brings : event_in r bytes ≡ Some (Comes low c) =
      repair-brings r s.next sender f later-source k bytes (heard-all r s.next sender f before sent is) e in
      let arrival : arrival_at now.streams bytes ≡ Own rx low c.time c.marker c.values c.bytes =
      arrives now rx r after.at.same after.at.known low c bytes brings in
      let receives : is_receiving (nth_stream now.streams rx) ≡ true = is-receiving now rx r after.at.known in (
        ap (λ (v : Received). played.Received v ∷ []) (says-refused now rx low c receives seen bytes arrival),
        end-stays now rx low c receives seen bytes arrival,
      )

  pub late : (answers_to later-source rx now (Repair k) ≡ played.Received verdict.Refused ∷ [])
      × (after_event later-source rx now (Repair k) ≡ now)
  late = on-repair (repair_at later-source k) refl
      ((heard-all r s.next sender f before sent is).repairs k ∙ made)

-- Events that happen one after the other.
use Rattle.std.proofs.Common.{◌≡◌, ℕ, zero, suc, ◌+◌, ◌<◌, ◌≤◌, refl, sym, ◌∙◌, ap, ap₂, subst, arith}
use Rattle.std.proofs.Common.{List, [], ◌∷◌, ◌++◌, length, length-set, take, append_assoc, append-nil, add-one}
use Rattle.std.proofs.Common.{Option, Some, None, Result, Ok, Err, inl, inr, true≢false}
use Rattle.std.proofs.lemmas.Bool.Decides.{nat_tests}
use Rattle.std.proofs.lemmas.List.{get_or-set_same, set-set}
use Rattle.std.specs.Prelude.{slice_index_or, slice_get, slice_set, ◌⊎◌, nat_lt, true}
use Rattle.rtp_media_stream_table.specs.Arrivals.{Arrival, NoHeader, NoStream, NoPayload, Own}
use Rattle.rtp_media_ends.specs.EndArrivals.{after_arrival}
use Rattle.rtp_media_stream_table.specs.Arrivals.{arrival_at}
use Rattle.rtp_media_ends.specs.Ends.{EndState, is_receiver_at, is_sender_at, sender_at, with_receiver, with_sender}
use Rattle.rtp_media_stream_table.specs.Streams.{is_receiving, is_sending, no_receiver, nth_sender, nth_stream}
use Rattle.rtp_media_stream_table.specs.Streams.{sending_of}
use Rattle.rtp_media_stream_table.specs.declared.open_stream.OpenStream.{OpenStream}
use Rattle.rtp_media_stream_table.specs.declared.open_stream.OpenStream.TheVariants.{Closed, Receiver, Sender}
use Rattle.rtp_media_streams.specs.Sending.{Sample, Sending, after_samples, datagrams_of}
use Rattle.rtp_media_streams.specs.declared.errors.RepairError.{RepairError}
use Rattle.rtp_media_streams.specs.Receiving.{Receiving}
use Rattle.rtp_media_runs.proofs.Both.{both, left, right}
use Rattle.rtp_media_ends.specs.Stops.{PollStops}
use Rattle.rtp_media_runs.specs.Pushing.{PlaysSome, StopsAt, after_made, after_pushes, after_repairs, source_at}
use Rattle.rtp_media_runs.specs.Schedules.{Source, after_bytes, after_event, after_schedule, answers_to, bytes_of}
use Rattle.rtp_media_runs.specs.Schedules.{made_at, played, repair_at, source_after, source_after_all, source_of}
use Rattle.rtp_media_runs.specs.Schedules.{stream_after}
use Rattle.rtp_media_runs.specs.declared.schedule.Event.{Event}
use Rattle.rtp_media_runs.specs.declared.schedule.Event.TheVariants.{Arrive, Foreign, Poll, Repair}
use Rattle.rtp_media_runs.specs.declared.schedule.Played.{Played}

-- no event closes a receiving stream
receives-set : (ss : List OpenStream) (m : ℕ) (r : Receiving) (rx : ℕ) → is_receiving (nth_stream ss rx) ≡ true
    → is_receiving (nth_stream (slice_set ss m (Receiver r)) rx) ≡ true
receives-set [] m r rx h = h
receives-set (x ∷ xs) zero r zero h = refl
receives-set (x ∷ xs) zero r (suc rx) h = h
receives-set (x ∷ xs) (suc m) r zero h = h
receives-set (x ∷ xs) (suc m) r (suc rx) h = receives-set xs m r rx h

receiver-kept : (e : EndState) (m : ℕ) (r : Receiving) (rx : ℕ) → is_receiver_at e rx ≡ true
    → is_receiver_at (with_receiver e m r) rx ≡ true
receiver-kept e m r rx h =
    both (nat_lt rx (length (slice_set e.streams m (Receiver r)))) _
    (ap (nat_lt rx) (length-set e.streams m (Receiver r)) ∙ left (nat_lt rx (length e.streams)) _ h)
    (receives-set e.streams m r rx (right (nat_lt rx (length e.streams)) _ h))

after-arrival-kept : (e : EndState) (a : Arrival) (rx : ℕ) → is_receiver_at e rx ≡ true
    → is_receiver_at (after_arrival e a) rx ≡ true
after-arrival-kept e NoHeader rx h = h
after-arrival-kept e NoStream rx h = h
after-arrival-kept e NoPayload rx h = h
after-arrival-kept e (Own stream low time marker values payload) rx h = receiver-kept e stream _ rx h

after-bytes-kept : (e : EndState) (o : Option (List ℕ)) (rx : ℕ) → is_receiver_at e rx ≡ true
    → is_receiver_at (after_bytes e o) rx ≡ true
after-bytes-kept e None rx h = h
after-bytes-kept e (Some d) rx h = after-arrival-kept e (arrival_at e.streams d) rx h

after-event-kept : (sent : Source) (rx : ℕ) (e : EndState) (x : Event) → is_receiver_at e rx ≡ true
    → is_receiver_at (after_event sent rx e x) rx ≡ true
after-event-kept sent rx e (Arrive k) h = after-bytes-kept e (slice_get sent.datagrams k) rx h
after-event-kept sent rx e (Repair k) h = after-bytes-kept e (bytes_of (repair_at sent k)) rx h
after-event-kept sent rx e (Foreign d) h = after-arrival-kept e (arrival_at e.streams d) rx h
after-event-kept sent rx e Poll h = receiver-kept e rx _ rx h

-- the stream that sends is there, another one can be put in its place, and itself too
abbrev nobody : OpenStream
nobody = Receiver no_receiver

within : (e : EndState) (tx : ℕ) → is_sender_at e tx ≡ true → tx < length e.streams
within e tx h = lt-of tx (length e.streams) (left (nat_lt tx (length e.streams)) _ h) where
  lt-of : (a b : ℕ) → nat_lt a b ≡ true → a < b
  lt-of a b h = grind (arith, nat_tests)

stream-put : (e : EndState) (tx : ℕ) (s : Sending) → is_sender_at e tx ≡ true → sender_at (with_sender e tx s) tx ≡ s
stream-put e tx s h = ap sending_of (get_or-set_same e.streams tx (Sender s) nobody (within e tx h))

put-back : (ss : List OpenStream) (n : ℕ) → is_sending (nth_stream ss n) ≡ true
    → slice_set ss n (Sender (nth_sender ss n)) ≡ ss
put-back [] n h = absurd (true≢false (sym h))
put-back (Sender s ∷ ss) zero h = refl
put-back (Receiver r ∷ ss) zero h = absurd (true≢false (sym h))
put-back (Closed ∷ ss) zero h = absurd (true≢false (sym h))
put-back (x ∷ ss) (suc n) h = ap (λ (ys : List OpenStream). x ∷ ys) (put-back ss n h)

itself : (e : EndState) (tx : ℕ) → is_sender_at e tx ≡ true → with_sender e tx (sender_at e tx) ≡ e
itself e tx h = ap (λ (ss : List OpenStream). record e { streams = ss })
    (put-back e.streams tx (right (nat_lt tx (length e.streams)) _ h))

twice-put : (e : EndState) (tx : ℕ) (s t : Sending) → with_sender (with_sender e tx s) tx t ≡ with_sender e tx t
twice-put e tx s t = ap (λ (ss : List OpenStream). record e { streams = ss })
    (set-set e.streams tx (Sender s) (Sender t))

pub still-sends : (e : EndState) (tx : ℕ) (s : Sending) → is_sender_at e tx ≡ true
    → is_sender_at (with_sender e tx s) tx ≡ true
still-sends e tx s h =
    both (nat_lt tx (length (slice_set e.streams tx (Sender s)))) _
    (ap (nat_lt tx) (length-set e.streams tx (Sender s)) ∙ left (nat_lt tx (length e.streams)) _ h)
    (ap is_sending (get_or-set_same e.streams tx (Sender s) nobody (within e tx h)))

-- what an event makes of the end that sends
module _ (e : EndState) (tx : ℕ) (sends : is_sender_at e tx ≡ true) where
  made-is : (o : Option (Result (List ℕ) RepairError))
      → after_made e tx o ≡ with_sender e tx (stream_after (sender_at e tx) o)
  made-is None = sym (itself e tx sends)
  made-is (Some (Err refusal)) = sym (itself e tx sends)
  made-is (Some (Ok bytes)) = refl

  stream-made : (o : Option (Result (List ℕ) RepairError))
      → sender_at (after_made e tx o) tx ≡ stream_after (sender_at e tx) o
  stream-made o = ap (λ (a : EndState). sender_at a tx) (made-is o)
      ∙ stream-put e tx (stream_after (sender_at e tx) o) sends

  made-sends : (o : Option (Result (List ℕ) RepairError)) → is_sender_at (after_made e tx o) tx ≡ true
  made-sends o = ap (λ (a : EndState). is_sender_at a tx) (made-is o)
      ∙ still-sends e tx (stream_after (sender_at e tx) o) sends

source-steps : (sent : Source) (x : Event)
    → source_after sent x ≡ record { datagrams = sent.datagrams; stream = stream_after sent.stream (made_at sent x) }
source-steps sent (Arrive k) = refl
source-steps sent (Repair k) = refl
source-steps sent (Foreign bytes) = refl
source-steps sent Poll = refl

-- one event more
source-more : (xs : List Event) (sent : Source) (i : ℕ) (d : Event) → i < length xs
    → source_after_all sent (take (suc i) xs)
    ≡ source_after (source_after_all sent (take i xs)) (slice_index_or xs i d)
source-more [] sent i d lt = absurd (omega arith)
source-more (x ∷ xs) sent zero d lt = refl
source-more (x ∷ xs) sent (suc i) d lt = source-more xs (source_after sent x) i d (omega arith)

after-more : (xs : List Event) (sent : Source) (rx : ℕ) (e : EndState) (i : ℕ) (d : Event) → i < length xs
    → after_schedule sent rx e (take (suc i) xs)
    ≡ after_event (source_after_all sent (take i xs)) rx (after_schedule sent rx e (take i xs)) (slice_index_or xs i d)
after-more [] sent rx e i d lt = absurd (omega arith)
after-more (x ∷ xs) sent rx e zero d lt = refl
after-more (x ∷ xs) sent rx e (suc i) d lt =
    after-more xs (source_after sent x) rx (after_event sent rx e x) i d (omega arith)

played-more : (xs : List Event) (sent : Source) (rx : ℕ) (e : EndState) (i : ℕ) (d : Event) → i < length xs
    → played sent rx e (take (suc i) xs)
    ≡ played sent rx e (take i xs)
    ++ answers_to (source_after_all sent (take i xs)) rx (after_schedule sent rx e (take i xs)) (slice_index_or xs i d)
played-more [] sent rx e i d lt = absurd (omega arith)
played-more (x ∷ xs) sent rx e zero d lt = append-nil (answers_to sent rx e x)
played-more (x ∷ xs) sent rx e (suc i) d lt =
    let u : Source = source_after sent x in
    let f : EndState = after_event sent rx e x in
    ap (λ (ps : List Played). answers_to sent rx e x ++ ps) (played-more xs u rx f i d (omega arith))
    ∙ sym (append_assoc (answers_to sent rx e x) (played u rx f (take i xs))
    (answers_to (source_after_all u (take i xs)) rx (after_schedule u rx f (take i xs)) (slice_index_or xs i d)))

-- Some first events of a schedule happened.
pub record IsPlayed (sent : Source) (tx rx : ℕ) (a b : EndState) (schedule : List Event) (count : ℕ)
    (datagrams : List (List ℕ)) (now_a now_b : EndState) (answers : List Played) : Type 0 where
  pub sends : is_sender_at now_a tx ≡ true
  pub receives : is_receiver_at now_b rx ≡ true
  pub place : count ≤ length schedule
  pub source : source_at now_a tx datagrams ≡ source_after_all sent (take count schedule)
  pub others : now_a ≡ with_sender a tx (sender_at now_a tx)
  pub after : now_b ≡ after_schedule sent rx b (take count schedule)
  pub answered : answers ≡ played sent rx b (take count schedule)

-- none happened yet
pub none-played : (tx rx : ℕ) (a b : EndState) (schedule : List Event) (datagrams : List (List ℕ))
    → is_sender_at a tx ≡ true → is_receiver_at b rx ≡ true
    → IsPlayed (source_at a tx datagrams) tx rx a b schedule 0 datagrams a b []
none-played tx rx a b schedule datagrams sends receives = record {
  sends = sends;
  receives = receives;
  place = omega arith;
  source = refl;
  others = sym (itself a tx sends);
  after = refl;
  answered = refl;
}

module _ (sent : Source) (tx rx : ℕ) (a b : EndState) (schedule : List Event) (i : ℕ) (datagrams : List (List ℕ))
    (now_a now_b : EndState) (answers : List Played) (x : Event)
    (is : IsPlayed sent tx rx a b schedule i datagrams now_a now_b answers) where
  abbrev here : Source
  here = source_at now_a tx datagrams

  -- one more happens
  pub played-on : (next_a next_b : EndState) (more : List Played) → i < length schedule
      → x ≡ slice_index_or schedule i x → next_a ≡ after_made now_a tx (made_at here x)
      → next_b ≡ after_event here rx now_b x → more ≡ answers ++ answers_to here rx now_b x
      → IsPlayed sent tx rx a b schedule (i + 1) datagrams next_a next_b more
  played-on next_a next_b more lt at made after answered =
      let made-here : Option (Result (List ℕ) RepairError) = made_at here x in
      let next-is : i + 1 ≡ suc i = add-one i in
      let stream : sender_at next_a tx ≡ stream_after (sender_at now_a tx) made-here =
      ap (λ (e : EndState). sender_at e tx) made ∙ stream-made now_a tx is.sends made-here in
      let steps : source_at next_a tx datagrams ≡ source_after here x =
      ap (λ (s : Sending). record here { stream = s }) stream ∙ sym (source-steps here x) in
      record {
        sends = ap (λ (e : EndState). is_sender_at e tx) made ∙ made-sends now_a tx is.sends made-here;
        receives = ap (λ (e : EndState). is_receiver_at e rx) after ∙ after-event-kept here rx now_b x is.receives;
        place = omega (arith, lt);
        source = steps ∙ ap₂ source_after is.source at ∙ sym (source-more schedule sent i x lt)
            ∙ ap (λ (n : ℕ). source_after_all sent (take n schedule)) (sym next-is);
        others = made ∙ made-is now_a tx is.sends made-here ∙ ap (with_sender now_a tx) (sym stream)
            ∙ ap (λ (e : EndState). with_sender e tx (sender_at next_a tx)) is.others
            ∙ twice-put a tx (sender_at now_a tx) (sender_at next_a tx);
        after = after
            ∙ ap (λ (u : Source). after_event u rx now_b x) is.source
            ∙ ap₂ (after_event (source_after_all sent (take i schedule)) rx) is.after at
            ∙ sym (after-more schedule sent rx b i x lt)
            ∙ ap (λ (n : ℕ). after_schedule sent rx b (take n schedule)) (sym next-is);
        answered = answered
            ∙ ap (λ (ps : List Played). ps ++ answers_to here rx now_b x) is.answered
            ∙ ap (λ (u : Source). played sent rx b (take i schedule) ++ answers_to u rx now_b x) is.source
            ∙ ap (λ (ps : List Played). played sent rx b (take i schedule) ++ ps)
            (ap₂ (answers_to (source_after_all sent (take i schedule)) rx) is.after at)
            ∙ sym (played-more schedule sent rx b i x lt)
            ∙ ap (λ (n : ℕ). played sent rx b (take n schedule)) (sym next-is);
      }

  -- those repairs were made
  pub repairs-made : now_a ≡ after_repairs a tx sent (take i schedule)
  repairs-made = is.others ∙ ap (λ (u : Source). with_sender a tx u.stream) is.source

  -- it stops here
  pub stops-here : PlaysSome sent tx rx a b schedule now_a now_b
  stops-here = record { count = i; place = is.place; sender = inl repairs-made; receiver = inl is.after }

  -- or in the next one
  stops-sender : (next_a : EndState) → i < length schedule → x ≡ slice_index_or schedule i x
      → (next_a ≡ now_a) ⊎ (next_a ≡ after_made now_a tx (made_at here x))
      → (next_a ≡ after_repairs a tx sent (take i schedule))
      ⊎ (next_a ≡ after_repairs a tx sent (take (suc i) schedule))
  stops-sender next_a lt at (inl same) = inl (same ∙ repairs-made)
  stops-sender next_a lt at (inr made) =
      let more : IsPlayed sent tx rx a b schedule (i + 1) datagrams next_a (after_event here rx now_b x)
      (answers ++ answers_to here rx now_b x) =
      played-on next_a (after_event here rx now_b x) (answers ++ answers_to here rx now_b x) lt at made refl refl in
      inr (more.others ∙ ap (λ (u : Source). with_sender a tx u.stream) more.source
      ∙ ap (λ (n : ℕ). after_repairs a tx sent (take n schedule)) (add-one i))

  pub stops-at : (next_a next_b : EndState) → i < length schedule → x ≡ slice_index_or schedule i x
      → StopsAt here tx rx now_a now_b x next_a next_b → PlaysSome sent tx rx a b schedule next_a next_b
  stops-at next_a next_b lt at stops = record {
    count = i;
    place = is.place;
    sender = stops-sender next_a lt at stops.sender;
    receiver = subst (λ (e : EndState). (next_b ≡ e) ⊎ PollStops e rx next_b) is.after stops.receiver;
  }

-- all happened
pub all-played : (sent : Source) (tx rx : ℕ) (a b : EndState) (schedule : List Event) (i : ℕ)
    (datagrams : List (List ℕ)) (now_a now_b : EndState) (answers : List Played)
    → IsPlayed sent tx rx a b schedule i datagrams now_a now_b answers → take i schedule ≡ schedule
    → now_a ≡ after_repairs a tx sent schedule
all-played sent tx rx a b schedule i datagrams now_a now_b answers is all =
    repairs-made sent tx rx a b schedule i datagrams now_a now_b answers Poll is
    ∙ ap (after_repairs a tx sent) all

abbrev source_from : List (List ℕ) → Sending → Source
source_from datagrams s = record { datagrams = datagrams; stream = s }

-- what samples leave is what a schedule begins with
module _ (a m : EndState) (tx : ℕ) (samples : List Sample) (datagrams : List (List ℕ))
    (sends : is_sender_at a tx ≡ true) (pushed : m ≡ after_pushes a tx samples)
    (sent : datagrams ≡ datagrams_of (sender_at a tx) samples) where
  pub pushed-sends : is_sender_at m tx ≡ true
  pushed-sends = ap (λ (e : EndState). is_sender_at e tx) pushed
      ∙ still-sends a tx (after_samples (sender_at a tx) samples) sends

  pub pushed-source : source_at m tx datagrams ≡ source_of (sender_at a tx) samples
  pushed-source = ap₂ source_from sent
      (ap (λ (e : EndState). sender_at e tx) pushed
      ∙ stream-put a tx (after_samples (sender_at a tx) samples) sends)

  pub pushed-repairs : (schedule : List Event) → after_repairs m tx (source_at m tx datagrams) schedule
      ≡ after_repairs a tx (source_of (sender_at a tx) samples) schedule
  pushed-repairs schedule =
      ap₂ (λ (e : EndState) (u : Source). after_repairs e tx u schedule) pushed pushed-source
      ∙ twice-put a tx (after_samples (sender_at a tx) samples)
      (source_after_all (source_of (sender_at a tx) samples) schedule).stream

  either : (schedule longer : List Event) (after_a : EndState)
      → (after_a ≡ after_repairs m tx (source_at m tx datagrams) schedule)
      ⊎ (after_a ≡ after_repairs m tx (source_at m tx datagrams) longer)
      → (after_a ≡ after_repairs a tx (source_of (sender_at a tx) samples) schedule)
      ⊎ (after_a ≡ after_repairs a tx (source_of (sender_at a tx) samples) longer)
  either schedule longer after_a (inl e) = inl (e ∙ pushed-repairs schedule)
  either schedule longer after_a (inr e) = inr (e ∙ pushed-repairs longer)

  pub pushed-some : (rx : ℕ) (b : EndState) (schedule : List Event) (after_a after_b : EndState)
      → PlaysSome (source_at m tx datagrams) tx rx m b schedule after_a after_b
      → PlaysSome (source_of (sender_at a tx) samples) tx rx a b schedule after_a after_b
  pushed-some rx b schedule after_a after_b some = record {
    count = some.count;
    place = some.place;
    sender = either (take some.count schedule) (take (suc some.count) schedule) after_a some.sender;
    receiver = subst (λ (u : Source). (after_b ≡ after_schedule u rx b (take some.count schedule))
        ⊎ PollStops (after_schedule u rx b (take some.count schedule)) rx after_b) pushed-source some.receiver;
  }

-- the element at a place, and past the end
pub get-some : {A : Type 0} (xs : List A) (k : ℕ) (x : A) → k < length xs → x ≡ slice_index_or xs k x
    → slice_get xs k ≡ Some x
get-some [] k x lt at = absurd (omega arith)
get-some (y ∷ ys) zero x lt at = ap Some (sym at)
get-some (y ∷ ys) (suc k) x lt at = get-some ys k x (omega arith) at

pub get-none : {A : Type 0} (xs : List A) (k : ℕ) → length xs ≤ k → slice_get xs k ≡ None
get-none [] k le = refl
get-none (y ∷ ys) zero le = absurd (omega arith)
get-none (y ∷ ys) (suc k) le = get-none ys k (omega arith)

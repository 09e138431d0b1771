-- What a receiving stream hears of a schedule of a sending stream's samples.
use Rattle.std.proofs.Common.{◌≡◌, ℕ, zero, suc, ◌+◌, ◌-◌, ◌%◌, ◌<◌, ◌≤◌, refl, sym, ◌∙◌, ap, ap₂, subst}
use Rattle.std.proofs.Common.{arith, Bool, true, false, List, [], ◌∷◌, ◌++◌, length, map, Option, Some, None, Ok}
use Rattle.std.proofs.Common.{true≢false}
use Rattle.std.proofs.lemmas.Bool.Decides.{nat_tests}
use Rattle.std.specs.List.{cons_option}
use Rattle.std.specs.Prelude.{Result, Err, if◌then◌else◌, nat_lt, option_and_then, slice_get, slice_index_or}
use Rattle.rtp_wire.specs.Header.{header_in}
use Rattle.rtp_wire.specs.Maps.{empty_map}
use Rattle.rtp_wire.specs.declared.header.RtpHeader.{RtpHeader}
use Rattle.h26x_payload.specs.Dispatch.{KeepCodecLawInForms}
use Rattle.payload_core_base.specs.Format.{Format}
use Rattle.rtp_media_schedules.specs.Hearing as hearing
use Rattle.payload_core_buffer.specs.Steps.{Answer}
use Rattle.rtp_media_schedules.specs.Hearing.{Comes, EndsSilent, Stream, fresh, handed_out, heard}
use Rattle.payload_core_buffer.specs.Buffered.{Holding}
use Rattle.rtp_media_schedules.specs.SentSamples.{timed_unit}
use Rattle.rtp_media_schedules.specs.Legal.{IsLegal}
use Rattle.rtp_media_schedules.specs.Orders.{IsTame, first_size}
use Rattle.rtp_media_schedules.specs.Samples.{AreSentAs, SentSample, canonical_units, datagrams}
use Rattle.rtp_media_schedules.specs.Sending.{numbered}
use Rattle.rtp_media_schedules.specs.Turns as turns
use Rattle.rtp_media_schedules.specs.Turns.{Ask, Sender, Turn, event_of}
use Rattle.rtp_media_schedules.specs.InTime.{timed_answer}
use Rattle.rtp_media_schedules.proofs.PromptSamples.{prompt-samples, tame-samples}
use Rattle.rtp_media_schedules.proofs.Samples.{exact-samples, legal-samples}
use Rattle.rtp_media_schedules.proofs.Withheld.{nothing-withheld}
use Rattle.rtp_media_streams.specs.Receiving.{Receiving, opened_receiver, with_stream}
use Rattle.rtp_media_streams.specs.Repairing.{repair}
use Rattle.rtp_media_streams.specs.Rows.{format_of}
use Rattle.rtp_media_streams.specs.declared.errors.RepairError.{RepairError}
use Rattle.rtp_media_streams.specs.Sending.{Sample, Sending, datagrams_of, payloads_of_samples, wire_payloads}
use Rattle.rtp_media_streams.proofs.Cutting.{length-datagrams_from, length-on_wire}
use Rattle.rtp_media_streams.proofs.Sent.{datagrams_of-consecutive}
use Rattle.rtp_media_ends.specs.Ends.{EndState, receiver_at}
use Rattle.rtp_media_ends.specs.FullArrival.{count_of, is_header_of, sent_samples}
use Rattle.rtp_media_ends.specs.FullArrival.{units_of}
use Rattle.rtp_media_ends.specs.OwnEvents.{event_by, event_in}
use Rattle.rtp_media_ends.specs.Repairs.{IsHeaded, TakesRepairs}
use Rattle.rtp_media_ends.proofs.Datagrams.{AreTheirs}
use Rattle.rtp_media_ends.proofs.Exact.{all-theirs, brings, sent-as-read, units-are}
use Rattle.rtp_media_ends.proofs.Repaired.{counts}
use Rattle.rtp_media_ends.proofs.SentRepairs.{headed, takes-repairs}
use Rattle.rtp_media_runs.specs.Runs.{AreForeign, FollowsSchedule, Hears, IsSaneSchedule, IsTameSchedule}
use Rattle.rtp_media_runs.specs.Runs.{IsTimelySchedule, canonical_of, prompt_answers, sizes_at, turns_at}
use Rattle.rtp_media_runs.specs.Schedules.{Source, bytes_of, is_made, is_repaired, own_events, played, poll_answers}
use Rattle.rtp_media_runs.specs.Schedules.{repair_at, source_after, source_of, turns_of}
use Rattle.rtp_media_runs.specs.declared.schedule.Event.{Event}
use Rattle.rtp_media_runs.specs.declared.schedule.Event.TheVariants.{Arrive, Foreign, Poll, Repair}
use Rattle.rtp_media_runs.proofs.Isolated.{isolated}
use Rattle.rtp_media_runs.proofs.Plays.{get-none}
use Rattle.rtp_media_runs.proofs.Repairs.{WasRepaired, got, made-after, takes-after, was-repaired}

-- bytes that do not read as the stream's own are no event of it
foreign-event : (r : Receiving) (o : Option RtpHeader) (d : List ℕ) → is_header_of r.ssrc r.types o ≡ false
    → event_by r o d ≡ None
foreign-event r None d h = refl
foreign-event r (Some header) d h = rw h refl

lt-of : (a b : ℕ) → nat_lt a b ≡ true → a < b
lt-of a b h = grind (arith, nat_tests)

ge-of : (a b : ℕ) → nat_lt a b ≡ false → b ≤ a
ge-of a b h = grind (arith, nat_tests)

-- the sender's datagrams are these arrivals to the stream
abbrev pub AreBrought : Receiving → ℕ → Sender → List (List ℕ) → Type 0
AreBrought r first sender ds = (k : ℕ) → k < length ds
    → event_in r (slice_index_or ds k []) ≡ Some (Comes ((first + k) % 65536) (sender (first + k)))

get-in : (ds : List (List ℕ)) (k : ℕ) → k < length ds → slice_get ds k ≡ Some (slice_index_or ds k [])
get-in [] k lt = absurd (omega arith)
get-in (d ∷ ds) zero lt = refl
get-in (d ∷ ds) (suc k) lt = get-in ds k (omega arith)

module _ (r : Receiving) (first : ℕ) (sender : Sender) (repaired : ℕ → Bool) where
  -- what a sender's datagrams are to the stream, and what repairs of them are
  pub record IsHeard (sent : Source) : Type 0 where
    pub brought : AreBrought r first sender sent.datagrams
    pub headed : (k : ℕ) → k < length sent.datagrams → IsHeaded (slice_index_or sent.datagrams k [])
    pub takes : TakesRepairs r sent.stream
    pub repairs : (k : ℕ) → is_repaired sent k ≡ repaired k

  pub heard-after : (sent : Source) (k : ℕ) → IsHeard sent → IsHeard (source_after sent (Repair k))
  heard-after sent k is = record {
    brought = is.brought;
    headed = is.headed;
    takes = takes-after r sent.stream (repair_at sent k) is.takes;
    repairs = λ i. made-after sent.stream (repair_at sent k) (slice_get sent.datagrams i) ∙ is.repairs i;
  }

  -- what a repair brings
  pub repair-brings : (sent : Source) (k : ℕ) (bytes : List ℕ) → IsHeard sent → repair_at sent k ≡ Some (Ok bytes)
      → event_in r bytes ≡ Some (Comes ((first + k) % 65536) (sender (first + k)))
  repair-brings sent k bytes is e =
      let was : WasRepaired sent.stream (slice_get sent.datagrams k) bytes =
      was-repaired sent.stream (slice_get sent.datagrams k) bytes e in
      let at = got sent.datagrams k was.datagram was.there in
      counts r sent.stream (slice_index_or sent.datagrams k []) bytes is.takes (is.headed k at.0)
      (ap (repair sent.stream) (sym at.1) ∙ was.is) ∙ is.brought k at.0

  on-repair : (o : Option (Result (List ℕ) RepairError)) (k : ℕ) (b : Bool) (es : List hearing.Event) (ts : List Turn)
      → is_made o ≡ b
      → ((bytes : List ℕ) → o ≡ Some (Ok bytes) → event_in r bytes ≡ Some
      (Comes ((first + k) % 65536) (sender (first + k))))
      → es ≡ map (event_of sender) ts
      → cons_option (option_and_then (event_in r) (bytes_of o)) es
      ≡ map (event_of sender) (if b then turns.Arrive (first + k) ∷ ts else ts)
  on-repair None k true es ts made brings ih = absurd (true≢false (sym made))
  on-repair None k false es ts made brings ih = ih
  on-repair (Some (Err e)) k true es ts made brings ih = absurd (true≢false (sym made))
  on-repair (Some (Err e)) k false es ts made brings ih = ih
  on-repair (Some (Ok bytes)) k false es ts made brings ih = absurd (true≢false made)
  on-repair (Some (Ok bytes)) k true es ts made brings ih =
      ap₂ (λ (o : Option hearing.Event) (fs : List hearing.Event). cons_option o fs) (brings bytes refl) ih

  on-arrival : (ds : List (List ℕ)) (b : Bool) (k : ℕ) (es : List hearing.Event) (ts : List Turn)
      → AreBrought r first sender ds → nat_lt k (length ds) ≡ b → es ≡ map (event_of sender) ts
      → cons_option (option_and_then (event_in r) (slice_get ds k)) es
      ≡ map (event_of sender) (if b then turns.Arrive (first + k) ∷ ts else ts)
  on-arrival ds true k es ts brought e ih =
      let lt : k < length ds = lt-of k (length ds) e in
      ap (λ (o : Option (List ℕ)). cons_option (option_and_then (event_in r) o) es) (get-in ds k lt)
      ∙ ap₂ (λ (o : Option hearing.Event) (fs : List hearing.Event). cons_option o fs) (brought k lt) ih
  on-arrival ds false k es ts brought e ih =
      ap (λ (o : Option (List ℕ)). cons_option (option_and_then (event_in r) o) es)
      (get-none ds k (ge-of k (length ds) e)) ∙ ih

  -- The own events of a schedule whose other bytes are foreign are its arrivals by true numbers, repairs too, and its
  -- polls.
  pub events-are : (xs : List Event) (sent : Source) → IsHeard sent → AreForeign r.ssrc r.types xs
      → own_events sent r xs ≡ map (event_of sender) (turns_of first (length sent.datagrams) repaired xs)
  events-are [] sent is foreign = refl
  events-are (Arrive k ∷ xs) sent is foreign =
      on-arrival sent.datagrams (nat_lt k (length sent.datagrams)) k (own_events sent r xs)
      (turns_of first (length sent.datagrams) repaired xs) is.brought refl (events-are xs sent is foreign)
  events-are (Repair k ∷ xs) sent is foreign =
      on-repair (repair_at sent k) k (repaired k) (own_events (source_after sent (Repair k)) r xs)
      (turns_of first (length sent.datagrams) repaired xs) (is.repairs k)
      (λ (bytes : List ℕ) (e : repair_at sent k ≡ Some (Ok bytes)). repair-brings sent k bytes is e)
      (events-are xs (source_after sent (Repair k)) (heard-after sent k is) foreign)
  events-are (Foreign d ∷ xs) sent is foreign =
      ap₂ (λ (o : Option hearing.Event) (es : List hearing.Event). cons_option o es)
      (foreign-event r (header_in empty_map d) d foreign.0) (events-are xs sent is foreign.1)
  events-are (Poll ∷ xs) sent is foreign =
      ap (λ (es : List hearing.Event). hearing.Poll ∷ es) (events-are xs sent is foreign)

-- there are as many datagrams as the samples have packets
pub many-datagrams : (s : Sending) (samples : List Sample) → AreTheirs s samples
    → length (datagrams_of s samples) ≡ count_of s samples
many-datagrams s samples are =
    ap length (datagrams_of-consecutive samples s)
    ∙ length-datagrams_from s s.next (wire_payloads s (payloads_of_samples s samples))
    ∙ length-on_wire s.types.pt s.mtu s.redundancy (payloads_of_samples s samples) ∙ are.count

-- an arrival in front of turns that end by a poll
one-more : (b : Bool) (x : ℕ) (longer ts : List Turn) → longer ≡ ts ++ Ask ∷ []
    → (if b then turns.Arrive x ∷ longer else longer) ≡ (if b then turns.Arrive x ∷ ts else ts) ++ Ask ∷ []
one-more true x longer ts same = ap (λ (us : List Turn). turns.Arrive x ∷ us) same
one-more false x longer ts same = same

module _ (law : KeepCodecLawInForms) (e : EndState) (rx : ℕ) (holding : Holding) (s : Sending) (samples : List Sample)
    (hears : Hears e rx holding s samples) where
  abbrev r : Receiving
  r = opened_receiver s.ssrc s.types s.map s.row holding

  abbrev format : Format
  format = format_of s.row

  abbrev sent : List SentSample
  sent = sent_samples s samples

  abbrev sender : Sender
  sender = numbered s.next (datagrams sent)

  abbrev ds : List (List ℕ)
  ds = datagrams_of s samples

  pub are : AreTheirs s samples
  are = all-theirs law s samples hears.sender hears.sound

  brought : AreBrought r s.next sender ds
  brought k lt =
      let many : length ds ≡ count_of s samples = many-datagrams s samples are in
      let back : s.next + k - s.next ≡ k = omega arith in
      ap (λ (i : ℕ). event_in r (slice_index_or ds i [])) (sym back)
      ∙ brings s r samples (s.next + k) (refl, refl, refl) hears.sender are (omega arith) (omega (arith, lt, many))

  abbrev source : Source
  source = source_of s samples

  abbrev repaired : ℕ → Bool
  repaired = is_repaired source

  pub is-heard : IsHeard r s.next sender repaired source
  is-heard = record {
    brought = brought;
    headed = headed law s samples hears.sender hears.sound;
    takes = takes-repairs s samples holding hears.sender;
    repairs = λ k. refl;
  }

  pub same : receiver_at e rx ≡ with_stream r (receiver_at e rx).stream
  same = hears.receiver.stream_is
      ∙ ap (with_stream r) (sym (ap (λ (x : Receiving). x.stream) hears.receiver.stream_is))

  -- the answers are those of a fresh stream to arrivals by true numbers and polls
  pub run-is : (xs : List Event) → AreForeign s.ssrc s.types xs →
      poll_answers (played source rx e xs)
      ≡ heard format (fresh holding) (map (event_of sender) (turns_at s samples xs))
  run-is xs foreign =
      isolated source rx r xs e (record { same = same; known = hears.receiver.found })
      ∙ ap₂ (λ (t : Stream) (es : List hearing.Event). heard format t es)
      (ap (λ (x : Receiving). x.stream) hears.receiver.stream_is)
      (events-are r s.next sender repaired xs source is-heard foreign
      ∙ ap (λ (n : ℕ). map (event_of sender) (turns_of s.next n repaired xs)) (many-datagrams s samples are))

  reads : AreSentAs format sent
  reads = sent-as-read law s samples hears.sender hears.sound

  pub legal-run : (xs : List Event) → IsSaneSchedule s samples xs
      → IsLegal (canonical_of s samples) (poll_answers (played source rx e xs))
  legal-run xs sane =
      subst (λ (os : List Answer). IsLegal (canonical_of s samples) os) (sym (run-is xs sane.foreign))
      (legal-samples format sent reads holding s.next (turns_at s samples xs) hears.numbers sane.order)

  pub follows-run : (xs : List Event) → IsSaneSchedule s samples xs
      → FollowsSchedule s samples holding xs (poll_answers (played source rx e xs))
  follows-run xs sane =
      subst (λ (os : List Answer). FollowsSchedule s samples holding xs os) (sym (run-is xs sane.foreign))
      (nothing-withheld format holding s.next sent (turns_at s samples xs) reads hears.numbers sane.order)

  pub prompt-run : (xs : List Event) → IsTimelySchedule s samples holding xs
      → map timed_answer (poll_answers (played source rx e xs)) ≡ prompt_answers s samples xs (units_of s samples)
  prompt-run xs timely =
      ap (λ (os : List Answer). map timed_answer os) (run-is xs timely.foreign)
      ∙ prompt-samples format sent reads holding s.next (turns_at s samples xs) hears.numbers timely.order

  -- a tame schedule is in time
  pub timely-run : (xs : List Event) (os : List Answer) → IsTameSchedule s samples holding xs os
      → IsTimelySchedule s samples holding xs
  timely-run xs os tame = record {
    foreign = tame.foreign;
    order = tame-samples format sent reads holding s.next (turns_at s samples xs) tame.order;
  }

  -- a poll more is a turn more
  turns-more : (first count : ℕ) (f : ℕ → Bool) (xs : List Event) → turns_of first count f (xs ++ Poll ∷ [])
      ≡ turns_of first count f xs ++ Ask ∷ []
  turns-more first count f [] = refl
  turns-more first count f (Arrive k ∷ xs) = one-more (nat_lt k count) (first + k) _ _ (turns-more first count f xs)
  turns-more first count f (Repair k ∷ xs) = one-more (f k) (first + k) _ _ (turns-more first count f xs)
  turns-more first count f (Foreign d ∷ xs) = turns-more first count f xs
  turns-more first count f (Poll ∷ xs) = ap (λ (ts : List Turn). Ask ∷ ts) (turns-more first count f xs)

  pub exact-run : (xs : List Event) → IsTameSchedule s samples holding xs (poll_answers (played source rx e xs))
      → map timed_unit (handed_out (poll_answers (played source rx e xs))) ≡ map Ok (units_of s samples)
  exact-run xs tame =
      let before : List Turn = turns_at s samples tame.before in
      let split : turns_at s samples xs ≡ before ++ Ask ∷ [] =
      ap (turns_at s samples) tame.last ∙ turns-more s.next (count_of s samples) repaired tame.before in
      let run : poll_answers (played source rx e xs)
      ≡ heard format (fresh holding) (map (event_of sender) (before ++ Ask ∷ [])) =
      run-is xs tame.foreign
      ∙ ap (λ (ts : List Turn). heard format (fresh holding) (map (event_of sender) ts)) split in
      ap (λ (os : List Answer). map timed_unit (handed_out os)) run
      ∙ exact-samples format sent reads holding s.next before hears.numbers
      (subst (λ (ts : List Turn). IsTame s.next (count_of s samples) holding (first_size (sizes_at s samples)) []
      s.next (sizes_at s samples) ts) split tame.order)
      (subst EndsSilent run tame.silent)
      ∙ units-are (canonical_units s.next sent)

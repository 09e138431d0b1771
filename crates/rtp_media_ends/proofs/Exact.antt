-- All datagrams of a sending stream arrive, and the polls answer its units.
use Rattle.std.proofs.Common.{◌≡◌, ℕ, zero, suc, ◌+◌, ◌-◌, ◌%◌, ◌<◌, ◌≤◌, refl, sym, ◌∙◌, ap, ap₂, subst}
use Rattle.std.proofs.Common.{arith, List, [], ◌∷◌, ◌++◌, length, map, replicate}
use Rattle.std.specs.Prelude.{Option, Some, Result, Ok, slice_index_or}
use Rattle.std.specs.List.{cons_option}
use Rattle.h26x_payload.specs.Dispatch.{KeepCodecLawInForms}
use Rattle.payload_core_base.specs.Format.{Format}
use Rattle.payload_core_base.specs.Outgoing.{Outgoing}
use Rattle.payload_core_base.specs.declared.error.PacketError.{PacketError}
use Rattle.payload_core_buffer.specs.Buffered.{Holding}
use Rattle.payload_core_buffer.specs.Steps.{Answer}
use Rattle.rtp_media_schedules.specs.Hearing.{Content, EndsSilent, Event, Comes, Poll, Stream, after_events}
use Rattle.rtp_media_schedules.specs.Hearing.{fresh}
use Rattle.rtp_media_schedules.specs.Hearing.{handed_out, heard, number_at, taken_by}
use Rattle.rtp_media_schedules.specs.SentSamples.{Timed, timed_unit}
use Rattle.rtp_media_schedules.specs.Samples.{AreSentAs, SentSample, canonical_units, datagrams}
use Rattle.rtp_media_schedules.specs.Samples.{whole_unit}
use Rattle.rtp_media_schedules.specs.Sending.{Canonical, numbered}
use Rattle.rtp_media_schedules.specs.Turns.{Arrive, Ask, event_of, AreGoodArrivals}
use Rattle.rtp_media_schedules.proofs.Full.{full-exact}
use Rattle.rtp_media_schedules.proofs.Polls.{polls-end}
use Rattle.rtp_media_schedules.proofs.Samples.{sent-as}
use Rattle.rtp_media_streams.specs.Polls.{Answers, AreAnswered, IsPolled, poll_step}
use Rattle.h26x_payload.specs.Codings.{forms_for}
use Rattle.rtp_media_streams.specs.Rows.{format_of, settings_in}
use Rattle.rtp_media_streams.specs.Sending.{Sample, Sending, packet_limit}
use Rattle.rtp_media_streams.specs.Sending.{payloads_of_samples, samples_of}
use Rattle.rtp_media_streams.specs.Receiving.{Receiving, opened_receiver}
use Rattle.rtp_media_streams.specs.Receiving.{with_stream}
use Rattle.rtp_media_streams.proofs.Configured.{same-reading}
use Rattle.rtp_media_streams.proofs.Draining.{answered, heard_polls}
use Rattle.rtp_media_streams.proofs.Sent.{datagrams_of-consecutive}
use Rattle.rtp_media_ends.specs.Ends.{EndState, receiver_at}
use Rattle.rtp_media_ends.specs.FullArrival.{AreSound, HasAllOf, IsSender, after_datagrams}
use Rattle.rtp_media_ends.specs.FullArrival.{coding_of}
use Rattle.rtp_media_ends.specs.FullArrival.{count_of, sent_datagram}
use Rattle.rtp_media_ends.specs.FullArrival.{sent_samples}
use Rattle.rtp_media_ends.specs.FullArrival.{units_of}
use Rattle.rtp_media_ends.specs.OwnEvents.{event_in, own_events}
use Rattle.rtp_media_ends.proofs.Datagrams.{AreTheirs, IsFor, sent-event, theirs}
use Rattle.rtp_media_ends.proofs.Isolation.{isolated, same-after}

-- what the datagram of a number brings
pub brings : (s : Sending) (r : Receiving) (samples : List Sample) (x : ℕ) → IsFor r s → IsSender s
    → AreTheirs s samples → s.next ≤ x → x < s.next + count_of s samples →
    event_in r (sent_datagram s samples x) ≡ Some
    (Comes (x % 65536) (numbered s.next (datagrams (sent_samples s samples)) x))
brings s r samples x for sound are low high =
    let ps : List Outgoing = payloads_of_samples s samples in
    let back : s.next + (x - s.next) ≡ x = omega (arith, low) in
    ap (λ (ds : List (List ℕ)). event_in r (slice_index_or ds (x - s.next) [])) (datagrams_of-consecutive samples s)
    ∙ sent-event s r s.redundancy ps s.next (x - s.next) for sound.typed sound.payload_type sound.wire_type
    sound.ssrc are.sendable (omega (arith, low, high, are.count))
    ∙ ap₂ (λ (k : ℕ) (cs : List Content). Some (Comes (k % 65536) (numbered s.next cs x))) back are.contents

-- the events of arrivals
arrivals-events : (s : Sending) (r : Receiving) (samples : List Sample) (past xs : List ℕ) → IsFor r s → IsSender s
    → AreTheirs s samples → AreGoodArrivals s.next (count_of s samples) past xs →
    own_events r (map (sent_datagram s samples) xs)
    ≡ map (event_of (numbered s.next (datagrams (sent_samples s samples)))) (map Arrive xs)
arrivals-events s r samples past [] for sound are good = refl
arrivals-events s r samples past (x ∷ xs) for sound are good =
    ap₂ (λ (o : Option Event) (es : List Event). cons_option o es)
    (brings s r samples x for sound are good.0.from_first good.0.before_end)
    (arrivals-events s r samples (x ∷ past) xs for sound are good.1)

-- arrivals answer nothing, and polls are polls
arrivals-silent : (format : Format) (f : ℕ → Content) (xs : List ℕ) (s : Stream) (es : List Event)
    → heard format s (map (event_of f) (map Arrive xs) ++ es)
    ≡ heard format (after_events format s (map (event_of f) (map Arrive xs))) es
arrivals-silent format f [] s es = refl
arrivals-silent format f (x ∷ xs) s es = arrivals-silent format f xs (taken_by s (number_at s (x % 65536)) (f x)) es

polls-are : (f : ℕ → Content) (n : ℕ) → map (event_of f) (replicate n Ask) ≡ replicate n Poll
polls-are f zero = refl
polls-are f (suc n) = ap (λ (es : List Event). Poll ∷ es) (polls-are f n)

turns-are : (f : ℕ → Content) (xs : List ℕ) (n : ℕ) → map (event_of f) (map Arrive xs ++ replicate n Ask)
    ≡ map (event_of f) (map Arrive xs) ++ replicate n Poll
turns-are f [] n = polls-are f n
turns-are f (x ∷ xs) n = ap (λ (es : List Event). Comes (x % 65536) (f x) ∷ es) (turns-are f xs n)

pub units-are : (cs : List Canonical) → let us : List (Result Timed PacketError) = map (λ c. Ok (whole_unit c)) cs in
    us ≡ map Ok (map whole_unit cs)
units-are [] = refl
units-are (c ∷ cs) = ap (λ (ts : List (Result Timed PacketError)). Ok (whole_unit c) ∷ ts) (units-are cs)

-- a sending stream's samples are sent as its receiver's format reads them
pub sent-as-read : KeepCodecLawInForms → (s : Sending) (samples : List Sample) → IsSender s → AreSound s samples
    → AreSentAs (format_of s.row) (sent_samples s samples)
unfolding format_of
sent-as-read law s samples sound good =
    subst (λ (f : Format). AreSentAs f (sent_samples s samples))
    (same-reading (forms_for s.for_browsers) (settings_in s.row) s.has_id s.row.codec)
    (sent-as (coding_of s) (law (forms_for s.for_browsers) (settings_in s.row) s.has_id s.row.codec)
    (packet_limit s) (samples_of s samples)
    s.packetizer sound.reached good.well_formed)

pub all-theirs : KeepCodecLawInForms → (s : Sending) (samples : List Sample) → IsSender s → AreSound s samples
    → AreTheirs s samples
all-theirs law s samples sound good = theirs samples s
    (law (forms_for s.for_browsers) (settings_in s.row) s.has_id s.row.codec) sound.reached
    good.well_formed good.values

-- exact after full arrival
pub exact : KeepCodecLawInForms
    → (e : EndState) (stream : ℕ) (holding : Holding) (sender : Sending) (samples : List Sample)
    (arrivals : List ℕ) (ds : List (List ℕ)) (answers : Answers) (after : Receiving) →
    HasAllOf e stream holding sender samples arrivals ds
    → IsPolled poll_step (receiver_at (after_datagrams e ds) stream) answers after →
    AreAnswered (units_of sender samples) answers
exact law e stream holding sender samples arrivals ds answers after all out =
    let r : Receiving = opened_receiver sender.ssrc sender.types sender.map sender.row holding in
    let format : Format = format_of sender.row in
    let ss : List SentSample = sent_samples sender samples in
    let f : ℕ → Content = numbered sender.next (datagrams ss) in
    let are : AreTheirs sender samples = all-theirs law sender samples all.sound all.samples_sound in
    let events : own_events r ds ≡ map (event_of f) (map Arrive arrivals) =
    subst (λ (x : Receiving). own_events x ds ≡ own_events x (map (sent_datagram sender samples) arrivals))
    all.receiver.stream_is all.own
    ∙ arrivals-events sender r samples [] arrivals (refl, refl, refl) all.sound are all.arrive in
    let same : receiver_at e stream ≡ with_stream r (receiver_at e stream).stream =
    all.receiver.stream_is ∙ ap (with_stream r) (sym (ap (λ (x : Receiving). x.stream) all.receiver.stream_is)) in
    let reached : Stream = after_events format (fresh holding) (map (event_of f) (map Arrive arrivals)) in
    let there : (receiver_at (after_datagrams e ds) stream).stream ≡ reached =
    isolated ds e stream r same all.receiver.found ∙ ap₂ (λ (s : Stream) (es : List Event). after_events format s es)
    (ap (λ (x : Receiving). x.stream) all.receiver.stream_is) events in
    let row : format_of (receiver_at (after_datagrams e ds) stream).row ≡ format =
    ap (λ (x : Receiving). format_of x.row) (same-after ds e stream r same all.receiver.found) in
    let n : ℕ = length reached.held in
    let heard-is : heard format (fresh holding) (map (event_of f) (map Arrive arrivals ++ replicate (suc n) Ask))
    ≡ heard format reached (replicate (suc n) Poll) =
    ap (heard format (fresh holding)) (turns-are f arrivals (suc n))
    ∙ arrivals-silent format f arrivals (fresh holding) (replicate (suc n) Poll) in
    let silent : EndsSilent (heard format reached (replicate (suc n) Poll)) =
    polls-end format n reached (omega arith) in
    let units : map timed_unit (handed_out (heard format reached (replicate (suc n) Poll)))
    ≡ map Ok (units_of sender samples) =
    ap (λ (os : List Answer). map timed_unit (handed_out os)) (sym heard-is)
    ∙ full-exact format holding sender.next n ss arrivals
    (sent-as-read law sender samples all.sound all.samples_sound) all.numbers all.few all.arrive
    (subst EndsSilent (sym heard-is) silent)
    ∙ units-are (canonical_units sender.next ss) in
    let whole : heard_polls (receiver_at (after_datagrams e ds) stream) (suc n)
    ≡ heard format reached (replicate (suc n) Poll) =
    ap₂ (λ (g : Format) (s : Stream). heard g s (replicate (suc n) Poll)) row there in
    answered out (suc n) (units_of sender samples) (subst EndsSilent (sym whole) silent)
    (ap (λ (os : List Answer). map timed_unit (handed_out os)) whole ∙ units)

-- Samples that are pushed one after the other.
use Rattle.std.proofs.Common.{true, ◌≡◌, ℕ, zero, suc, ◌+◌, ◌<◌, ◌≤◌, refl, sym, ◌∙◌}
use Rattle.std.proofs.Common.{ap, ap₂, subst, subst₂, arith, inl, inr}
use Rattle.std.proofs.Common.{List, [], ◌∷◌, ◌++◌, length, take, append_assoc, append-nil, add-one}
use Rattle.std.proofs.lemmas.List.{get_or-set_same, set-set}
use Rattle.std.proofs.lemmas.Bool.Decides.{nat_tests}
use Rattle.std.specs.Prelude.{Option, Some, None, nat_lt, slice_index_or}
use Rattle.rtp_media_streams.specs.Sending.{HasFailed, Sample, Sending, after_sample, after_samples, datagrams_of}
use Rattle.rtp_media_streams.specs.Sending.{first_refusal, refusal_of_sample, sent_datagrams}
use Rattle.rtp_media_streams.specs.declared.errors.SampleError.{SampleError}
use Rattle.rtp_media_stream_table.specs.declared.open_stream.OpenStream.{OpenStream}
use Rattle.rtp_media_stream_table.specs.declared.open_stream.OpenStream.TheVariants.{Receiver, Sender}
use Rattle.rtp_media_ends.specs.Ends.{EndState, is_sender_at, sender_at}
use Rattle.rtp_media_stream_table.specs.Streams.{no_receiver}
use Rattle.rtp_media_stream_table.specs.Streams.{sending_of}
use Rattle.rtp_media_ends.specs.Ends.{with_sender}
use Rattle.rtp_media_runs.proofs.Both.{left}
use Rattle.rtp_media_runs.specs.Pushing.{IsRefusedAt, PushesSome, after_pushes, refusal_of_samples}

-- the stream of no number
abbrev nobody : OpenStream
nobody = Receiver no_receiver

-- what is known of the number of a sending stream
sender-within : (e : EndState) (tx : ℕ) → is_sender_at e tx ≡ true → tx < length e.streams
sender-within e tx h = lt-of tx (length e.streams) (left (nat_lt tx (length e.streams)) _ h) where
  lt-of : (a b : ℕ) → nat_lt a b ≡ true → a < b
  lt-of a b h = grind (arith, nat_tests)

-- the stream after one sample, its datagrams, and why it is refused
abbrev pub stepped : Sending → Sample → Sending
stepped s x = after_sample s x.time x.values x.bytes

abbrev pub datagrams_for : Sending → Sample → List (List ℕ)
datagrams_for s x = sent_datagrams s x.time x.values x.bytes

abbrev pub refusal_for : Sending → Sample → Option SampleError
refusal_for s x = refusal_of_sample s x.time x.values x.bytes

after-more : (xs : List Sample) (s : Sending) (i : ℕ) (d : Sample) → i < length xs → after_samples s (take (suc i) xs)
    ≡ stepped (after_samples s (take i xs)) (slice_index_or xs i d)
after-more [] s i d lt = absurd (omega arith)
after-more (x ∷ xs) s zero d lt = refl
after-more (x ∷ xs) s (suc i) d lt = after-more xs (stepped s x) i d (omega arith)

datagrams-more : (xs : List Sample) (s : Sending) (i : ℕ) (d : Sample) → i < length xs
    → datagrams_of s (take (suc i) xs)
    ≡ datagrams_of s (take i xs) ++ datagrams_for (after_samples s (take i xs)) (slice_index_or xs i d)
datagrams-more [] s i d lt = absurd (omega arith)
datagrams-more (x ∷ xs) s zero d lt = append-nil (datagrams_for s x)
datagrams-more (x ∷ xs) s (suc i) d lt =
    ap (λ (ds : List (List ℕ)). datagrams_for s x ++ ds) (datagrams-more xs (stepped s x) i d (omega arith))
    ∙ sym (append_assoc (datagrams_for s x) (datagrams_of (stepped s x) (take i xs))
    (datagrams_for (after_samples (stepped s x) (take i xs)) (slice_index_or xs i d)))

first-none : (o later : Option SampleError) → first_refusal o later ≡ None → (o ≡ None) × (later ≡ None)
first-none None later h = (refl, h)
first-none (Some e) later h = cc h

-- what refuses the sample after accepted ones refuses the samples up to it, and all
refusal-more : (xs : List Sample) (s : Sending) (i : ℕ) (d : Sample) → i < length xs
    → refusal_of_samples s (take i xs) ≡ None →
    refusal_for (after_samples s (take i xs)) (slice_index_or xs i d) ≡ None
    → refusal_of_samples s (take (suc i) xs) ≡ None
refusal-more [] s i d lt before here = absurd (omega arith)
refusal-more (x ∷ xs) s zero d lt before here = ap (λ (o : Option SampleError). first_refusal o None) here
refusal-more (x ∷ xs) s (suc i) d lt before here =
    let parts : (refusal_for s x ≡ None) × (refusal_of_samples (stepped s x) (take i xs) ≡ None) =
    first-none (refusal_for s x) (refusal_of_samples (stepped s x) (take i xs)) before in
    ap₂ first_refusal parts.0 (refusal-more xs (stepped s x) i d (omega arith) parts.1 here)

refusal-at : (xs : List Sample) (s : Sending) (i : ℕ) (d : Sample) (e : SampleError) → i < length xs
    → refusal_of_samples s (take i xs) ≡ None →
    refusal_for (after_samples s (take i xs)) (slice_index_or xs i d) ≡ Some e → refusal_of_samples s xs ≡ Some e
refusal-at [] s i d e lt before here = absurd (omega arith)
refusal-at (x ∷ xs) s zero d e lt before here =
    ap (λ (o : Option SampleError). first_refusal o (refusal_of_samples (stepped s x) xs)) here
refusal-at (x ∷ xs) s (suc i) d e lt before here =
    let parts : (refusal_for s x ≡ None) × (refusal_of_samples (stepped s x) (take i xs) ≡ None) =
    first-none (refusal_for s x) (refusal_of_samples (stepped s x) (take i xs)) before in
    ap₂ first_refusal parts.0 (refusal-at xs (stepped s x) i d e (omega arith) parts.1 here)

-- it is refused as the last of this many
refusal-here : (xs : List Sample) (s : Sending) (i : ℕ) (d : Sample) (e : SampleError) → i < length xs
    → refusal_of_samples s (take i xs) ≡ None →
    refusal_for (after_samples s (take i xs)) (slice_index_or xs i d) ≡ Some e
    → refusal_of_samples s (take (suc i) xs) ≡ Some e
refusal-here [] s i d e lt before here = absurd (omega arith)
refusal-here (x ∷ xs) s zero d e lt before here = ap (λ (o : Option SampleError). first_refusal o None) here
refusal-here (x ∷ xs) s (suc i) d e lt before here =
    let parts : (refusal_for s x ≡ None) × (refusal_of_samples (stepped s x) (take i xs) ≡ None) =
    first-none (refusal_for s x) (refusal_of_samples (stepped s x) (take i xs)) before in
    ap₂ first_refusal parts.0 (refusal-here xs (stepped s x) i d e (omega arith) parts.1 here)

-- Some first samples were accepted and pushed.
pub record IsPushed (before : EndState) (tx : ℕ) (samples : List Sample) (count : ℕ) (now : EndState)
    (datagrams : List (List ℕ)) : Type 0 where
  pub there_is : is_sender_at before tx ≡ true
  pub place : count ≤ length samples
  pub accepted : refusal_of_samples (sender_at before tx) (take count samples) ≡ None
  pub after : now ≡ after_pushes before tx (take count samples)
  pub sent : datagrams ≡ datagrams_of (sender_at before tx) (take count samples)

-- the stream after those that were pushed
pub stream-pushed : (before now : EndState) (tx count : ℕ) (samples : List Sample) (datagrams : List (List ℕ))
    → IsPushed before tx samples count now datagrams →
    sender_at now tx ≡ after_samples (sender_at before tx) (take count samples)
stream-pushed before now tx count samples datagrams is =
    ap (λ (e : EndState). sender_at e tx) is.after
    ∙ ap sending_of (get_or-set_same before.streams tx
    (Sender (after_samples (sender_at before tx) (take count samples))) nobody
    (sender-within before tx is.there_is))

-- another stream in its place
replaced : (before now : EndState) (tx count : ℕ) (samples : List Sample) (datagrams : List (List ℕ)) (s : Sending)
    → IsPushed before tx samples count now datagrams → with_sender now tx s ≡ with_sender before tx s
replaced before now tx count samples datagrams s is =
    ap (λ (e : EndState). with_sender e tx s) is.after
    ∙ ap (λ (ss : List OpenStream). record before { streams = ss })
    (set-set before.streams tx (Sender (after_samples (sender_at before tx) (take count samples))) (Sender s))

-- one more is pushed
pub pushed-more : (before now next : EndState) (tx i : ℕ) (samples : List Sample) (datagrams more : List (List ℕ))
    (x : Sample) → IsPushed before tx samples i now datagrams → i < length samples → x ≡ slice_index_or samples i x
    → refusal_for (sender_at now tx) x ≡ None → next ≡ with_sender now tx (stepped (sender_at now tx) x)
    → more ≡ datagrams ++ datagrams_for (sender_at now tx) x → IsPushed before tx samples (i + 1) next more
pushed-more before now next tx i samples datagrams more x is lt at ok after sent =
    let first : Sending = sender_at before tx in
    let here : Sending = after_samples first (take i samples) in
    let stream : sender_at now tx ≡ here = stream-pushed before now tx i samples datagrams is in
    let accepted : refusal_for here (slice_index_or samples i x) ≡ None =
    subst₂ (λ (s : Sending) (y : Sample). refusal_for s y ≡ None) stream at ok in
    let next-is : i + 1 ≡ suc i = add-one i in
    record {
      there_is = is.there_is;
      place = omega (arith, lt);
      accepted = ap (λ (n : ℕ). refusal_of_samples first (take n samples)) next-is
          ∙ refusal-more samples first i x lt is.accepted accepted;
      after = after
          ∙ replaced before now tx i samples datagrams (stepped (sender_at now tx) x) is
          ∙ ap (with_sender before tx) (ap₂ stepped stream at ∙ sym (after-more samples first i x lt)
          ∙ ap (λ (n : ℕ). after_samples first (take n samples)) (sym next-is));
      sent = sent
          ∙ ap₂ (λ (as' bs : List (List ℕ)). as' ++ bs) is.sent (ap₂ datagrams_for stream at)
          ∙ sym (datagrams-more samples first i x lt)
          ∙ ap (λ (n : ℕ). datagrams_of first (take n samples)) (sym next-is);
    }

-- the next one is refused
pub refused-at : (before now next : EndState) (tx i : ℕ) (samples : List Sample) (datagrams : List (List ℕ))
    (x : Sample) (e : SampleError) → IsPushed before tx samples i now datagrams → i < length samples
    → x ≡ slice_index_or samples i x → refusal_for (sender_at now tx) x ≡ Some e → next ≡ now
    → IsRefusedAt before tx samples e next
refused-at before now next tx i samples datagrams x e is lt at refused same =
    let first : Sending = sender_at before tx in
    let here : Sending = after_samples first (take i samples) in
    let stream : sender_at now tx ≡ here = stream-pushed before now tx i samples datagrams is in
    record {
      count = i;
      place = is.place;
      accepted = is.accepted;
      after_is = same ∙ is.after;
      here = refusal-here samples first i x e lt is.accepted
          (subst₂ (λ (s : Sending) (y : Sample). refusal_for s y ≡ Some e) stream at refused);
      refused = refusal-at samples first i x e lt is.accepted
          (subst₂ (λ (s : Sending) (y : Sample). refusal_for s y ≡ Some e) stream at refused);
    }

-- memory ran out in the next one
pub fails-at : (before now next : EndState) (tx i : ℕ) (samples : List Sample) (datagrams : List (List ℕ))
    → IsPushed before tx samples i now datagrams → HasFailed (sender_at now tx) (sender_at next tx)
    → next ≡ with_sender now tx (sender_at next tx) → PushesSome before tx samples next
fails-at before now next tx i samples datagrams is failed others =
    let stream : sender_at now tx ≡ after_samples (sender_at before tx) (take i samples) =
    stream-pushed before now tx i samples datagrams is in
    record {
      count = i;
      place = is.place;
      accepted = is.accepted;
      stream = inr (subst (λ (s : Sending). HasFailed s (sender_at next tx)) stream failed);
      others = others ∙ replaced before now tx i samples datagrams (sender_at next tx) is;
    }

-- or after it
pub stops-behind : (before now : EndState) (tx i : ℕ) (samples : List Sample) (datagrams : List (List ℕ))
    → IsPushed before tx samples i now datagrams → PushesSome before tx samples now
stops-behind before now tx i samples datagrams is =
    let stream : sender_at now tx ≡ after_samples (sender_at before tx) (take i samples) =
    stream-pushed before now tx i samples datagrams is in
    record {
      count = i;
      place = is.place;
      accepted = is.accepted;
      stream = inl stream;
      others = is.after ∙ ap (with_sender before tx) (sym stream);
    }

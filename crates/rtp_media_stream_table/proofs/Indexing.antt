-- Streams that are in an index, found by it, and kept in it.
use Rattle.std.proofs.Common.{◌≡◌, ◌≢◌, ℕ, ◌+◌, ◌<◌, refl, sym, ◌∙◌, ap, ap₂, arith, Bool, true, false, ◌&&◌}
use Rattle.std.proofs.Common.{◌||◌, List, [], ◌∷◌, ◌++◌, length, length-append, true≢false}
use Rattle.std.proofs.lemmas.Bool.Decides.{nat_tests}
use Rattle.std.proofs.lemmas.List.{get_or-set_same, get_or-set_other, length-set, get_or_push}
use Rattle.std.proofs.lemmas.List.{get_or_append_left}
use Rattle.std.proofs.lemmas.List.Folds.{list_any_at}
use Rattle.std.specs.Prelude.{◌==◌, nat_lt, Option, Some, None, if◌then◌else◌, is_some, position, slice_set, unwrap_or}
use Rattle.std.specs.List.{list_any}
use Rattle.rtp_media_streams.specs.Polls.{Answers}
use Rattle.rtp_media_streams.specs.Receiving.{Receiving, with_stream}
use Rattle.rtp_media_streams.proofs.Polling.{polled-keeps, some-keeps}
use Rattle.rtp_media_streams.specs.Sending.{Sending}
use Rattle.rtp_media_streams.specs.Types.{is_key_of}
use Rattle.rtp_media_streams.specs.declared.types.RepairKey.{RepairKey}
use Rattle.rtp_media_streams.specs.declared.types.PayloadTypes.{PayloadTypes}
use Rattle.rtp_media_stream_table.specs.Arrivals.{takes}
use Rattle.rtp_media_stream_table.specs.declared.open_stream.Direction.{Direction}
use Rattle.rtp_media_stream_table.specs.declared.open_stream.Direction.TheVariants.{Receives, Sends}
use Rattle.rtp_media_stream_table.specs.declared.open_stream.OpenStream.{OpenStream}
use Rattle.rtp_media_stream_table.specs.declared.open_stream.OpenStream.TheVariants.{Closed, Sender, Receiver}
use Rattle.rtp_media_stream_table.specs.declared.stream_index.StreamIndex.{StreamIndex}
use Rattle.rtp_media_stream_table.specs.Streams.{no_receiver, nth_stream, receives_as, receiving_of, sends_as}
use Rattle.rtp_media_stream_table.specs.Polled.{AnswersAll, AnswersSome, ArePolledOut, ArePolledSome}
use Rattle.rtp_media_stream_table.specs.Indexed.{AreIndexed, IsIndexed, conflicts, has_key, has_red, has_repair, sends}
use Rattle.rtp_media_stream_table.specs.StreamIndex.{number_at}
use Rattle.rtp_media_stream_table.proofs.Looked.{any-either, any-is, looked-up, tested}
use Rattle.rtp_media_stream_table.proofs.NewReceiver.{not-taken, shares}

-- ---- found

module _ (has : ℕ → ℕ → OpenStream → Bool) (ss : List OpenStream) (index : StreamIndex)
    (indexed : IsIndexed has index ss)
    (ssrc pt : ℕ) where
  place : tested (has ssrc pt) ss (Receiver no_receiver) (number_at index ssrc pt) ≡ position (has ssrc pt) ss
  place = looked-up (has ssrc pt) ss (Receiver no_receiver) (number_at index ssrc pt) (λ n. indexed n ssrc pt)

  pub found : (o : Option ℕ) → number_at index ssrc pt ≡ o
      → tested (has ssrc pt) ss (Receiver no_receiver) o ≡ position (has ssrc pt) ss
  found o is = ap (tested (has ssrc pt) ss (Receiver no_receiver)) (sym is) ∙ place

  -- by a test of the place that the index has, or without one
  pub found-at : (n : ℕ) (b : Bool) → number_at index ssrc pt ≡ Some n
      → b ≡ (nat_lt n (length ss) && has ssrc pt (nth_stream ss n))
      → (if b then Some n else None) ≡ position (has ssrc pt) ss
  found-at n b is test = ap (λ (c : Bool). if c then Some n else None) test ∙ found (Some n) is

  by-test : (b : Bool) (n : ℕ) → b ≡ is_some (if b then Some n else None)
  by-test true n = refl
  by-test false n = refl

  pub any-at : (n : ℕ) (b : Bool) → number_at index ssrc pt ≡ Some n
      → b ≡ (nat_lt n (length ss) && has ssrc pt (nth_stream ss n)) → b ≡ list_any (has ssrc pt) ss
  any-at n b is test = by-test b n ∙ ap is_some (found-at n b is test) ∙ sym (any-is (has ssrc pt) ss)

  pub none-at : number_at index ssrc pt ≡ None → None ≡ position (has ssrc pt) ss
  none-at is = found None is

  pub not-any : number_at index ssrc pt ≡ None → false ≡ list_any (has ssrc pt) ss
  not-any is = ap is_some (found None is) ∙ sym (any-is (has ssrc pt) ss)

-- none has anything under no RED type
pub none-red : (has : ℕ → ℕ → OpenStream → Bool) (ssrc : ℕ) (ss : List OpenStream)
    → false ≡ list_any (has_red has ssrc None) ss
none-red has ssrc [] = refl
none-red has ssrc (x ∷ xs) = none-red has ssrc xs

-- none has anything under no key of repairs
pub none-repair : (has : ℕ → ℕ → OpenStream → Bool) (ss : List OpenStream) → false ≡ list_any (has_repair has None) ss
none-repair has [] = refl
none-repair has (x ∷ xs) = none-repair has xs

is-either : (d : Direction) (ssrc pt : ℕ) (red : Option ℕ) (repair : Option RepairKey) (x : OpenStream)
    → conflicts d ssrc (record { pt = pt; red = red; repair = repair }) x
    ≡ (has_key d ssrc pt x || (has_red (has_key d) ssrc red x || has_repair (has_key d) repair x))
is-either Sends ssrc pt None None (Sender s) = refl
is-either Sends ssrc pt None (Some key) (Sender s) = refl
is-either Sends ssrc pt (Some red) None (Sender s) = refl
is-either Sends ssrc pt (Some red) (Some key) (Sender s) = refl
is-either Sends ssrc pt None None (Receiver r) = refl
is-either Sends ssrc pt None (Some key) (Receiver r) = refl
is-either Sends ssrc pt (Some red) None (Receiver r) = refl
is-either Sends ssrc pt (Some red) (Some key) (Receiver r) = refl
is-either Sends ssrc pt None None Closed = refl
is-either Sends ssrc pt None (Some key) Closed = refl
is-either Sends ssrc pt (Some red) None Closed = refl
is-either Sends ssrc pt (Some red) (Some key) Closed = refl
is-either Receives ssrc pt None None (Sender s) = refl
is-either Receives ssrc pt None (Some key) (Sender s) = refl
is-either Receives ssrc pt (Some red) None (Sender s) = refl
is-either Receives ssrc pt (Some red) (Some key) (Sender s) = refl
is-either Receives ssrc pt None None (Receiver r) = refl
is-either Receives ssrc pt None (Some key) (Receiver r) = refl
is-either Receives ssrc pt (Some red) None (Receiver r) = refl
is-either Receives ssrc pt (Some red) (Some key) (Receiver r) = refl
is-either Receives ssrc pt None None Closed = refl
is-either Receives ssrc pt None (Some key) Closed = refl
is-either Receives ssrc pt (Some red) None Closed = refl
is-either Receives ssrc pt (Some red) (Some key) Closed = refl

-- A stream could have the datagrams of one of these keys if it has one of them.
pub could-be : (d : Direction) (ssrc : ℕ) (types : PayloadTypes) (ss : List OpenStream) (a b c : Bool)
    → a ≡ list_any (has_key d ssrc types.pt) ss → b ≡ list_any (has_red (has_key d) ssrc types.red) ss
    → c ≡ list_any (has_repair (has_key d) types.repair) ss
    → (a || (b || c)) ≡ list_any (conflicts d ssrc types) ss
could-be d ssrc types ss a b c h k m =
    ap₂ (λ (x y : Bool). x || y) h (ap₂ (λ (x y : Bool). x || y) k m
    ∙ sym (any-either (has_red (has_key d) ssrc types.red) (has_repair (has_key d) types.repair)
    (λ x. has_red (has_key d) ssrc types.red x || has_repair (has_key d) types.repair x) (λ x. refl) ss))
    ∙ sym (any-either (has_key d ssrc types.pt)
    (λ x. has_red (has_key d) ssrc types.red x || has_repair (has_key d) types.repair x)
    (conflicts d ssrc types) (is-either d ssrc types.pt types.red types.repair) ss)

-- ---- kept

some-is : (a b : ℕ) → Some a ≡ Some b → a ≡ b
some-is a b e = ap (λ (o : Option ℕ). unwrap_or o 0) e

-- a stream put if one is that has what it has
module _ (has : ℕ → ℕ → OpenStream → Bool) (index : StreamIndex) (ss : List OpenStream) (m : ℕ) (y : OpenStream)
    (same : (ssrc pt : ℕ) → has ssrc pt y ≡ true → has ssrc pt (nth_stream ss m) ≡ true) where
  by-place : (n ssrc pt : ℕ) (here : Bool) → (n == m) ≡ here → n < length ss
      → has ssrc pt (nth_stream (slice_set ss m y) n) ≡ true → has ssrc pt (nth_stream ss n) ≡ true
  by-place n ssrc pt true here lt own =
      let at : n ≡ m = grind (arith, nat_tests, here) in
      let within : m < length ss = omega (arith, lt, at) in
      let there : nth_stream (slice_set ss m y) n ≡ y =
      ap (nth_stream (slice_set ss m y)) at ∙ get_or-set_same ss m y (Receiver no_receiver) within in
      ap (λ (k : ℕ). has ssrc pt (nth_stream ss k)) at
      ∙ same ssrc pt (ap (has ssrc pt) (sym there) ∙ own)
  by-place n ssrc pt false here lt own =
      let other : n ≢ m = λ (e : n ≡ m). true≢false (grind (arith, nat_tests, here, e)) in
      ap (has ssrc pt) (sym (get_or-set_other ss m n y (Receiver no_receiver) other)) ∙ own

  pub kept : IsIndexed has index ss → IsIndexed has index (slice_set ss m y)
  kept indexed n ssrc pt lt own =
      let before : n < length ss = omega (arith, lt, length-set ss m y) in
      indexed n ssrc pt before (by-place n ssrc pt (n == m) refl before own)

-- A receiving stream of the same SSRC and types in its place.
pub kept-receiver : (senders receivers : StreamIndex) (ss : List OpenStream) (m : ℕ) (r y : Receiving)
    → nth_stream ss m ≡ Receiver r → y.ssrc ≡ r.ssrc → y.types ≡ r.types → AreIndexed senders receivers ss
    → AreIndexed senders receivers (slice_set ss m (Receiver y))
kept-receiver senders receivers ss m r y is ssrc types indexed = record {
  sending = kept sends senders ss m (Receiver y) (λ s p no. absurd (true≢false (sym no))) indexed.sending;
  receiving = kept takes receivers ss m (Receiver y) (λ s p own. ap (takes s p) is
      ∙ ap₂ (λ (a : ℕ) (t : PayloadTypes). is_key_of a t s p) (sym ssrc) (sym types) ∙ own) indexed.receiving;
}

-- A sending stream of the same SSRC and types in its place.
pub kept-sender : (senders receivers : StreamIndex) (ss : List OpenStream) (m : ℕ) (x y : Sending)
    → nth_stream ss m ≡ Sender x → y.ssrc ≡ x.ssrc → y.types ≡ x.types → AreIndexed senders receivers ss
    → AreIndexed senders receivers (slice_set ss m (Sender y))
kept-sender senders receivers ss m x y is ssrc types indexed = record {
  sending = kept sends senders ss m (Sender y) (λ s p own. ap (sends s p) is
      ∙ ap₂ (λ (a : ℕ) (t : PayloadTypes). is_key_of a t s p) (sym ssrc) (sym types) ∙ own) indexed.sending;
  receiving = kept takes receivers ss m (Sender y) (λ s p no. absurd (true≢false (sym no))) indexed.receiving;
}

-- a stream closed, and what it had removed
module _ (has : ℕ → ℕ → OpenStream → Bool) (none : (ssrc pt : ℕ) → has ssrc pt Closed ≡ false)
    (before after : StreamIndex) (ss : List OpenStream) (m ssrc : ℕ) (types : PayloadTypes)
    (own : (s p : ℕ) → is_key_of ssrc types s p ≡ true → has s p (nth_stream ss m) ≡ true) (within : m < length ss)
    (others : (s p : ℕ) → is_key_of ssrc types s p ≡ false → number_at after s p ≡ number_at before s p)
    (indexed : IsIndexed has before ss) where
  apart : (n s p : ℕ) (key : Bool) → is_key_of ssrc types s p ≡ key → n ≢ m → number_at before s p ≡ Some n
      → number_at after s p ≡ Some n
  apart n s p false key ne is = others s p key ∙ is
  apart n s p true key ne is = absurd (ne (some-is n m (sym is ∙ indexed m s p within (own s p key))))

  closed-at : (n s p : ℕ) (here : Bool) → (n == m) ≡ here → n < length ss
      → has s p (nth_stream (slice_set ss m Closed) n) ≡ true → number_at after s p ≡ Some n
  closed-at n s p true here lt has_it =
      let at : n ≡ m = grind (arith, nat_tests, here) in
      absurd (true≢false (sym has_it ∙ ap (λ (k : ℕ). has s p (nth_stream (slice_set ss m Closed) k)) at
      ∙ ap (has s p) (get_or-set_same ss m Closed (Receiver no_receiver) within) ∙ none s p))
  closed-at n s p false here lt has_it =
      let other : n ≢ m = λ (e : n ≡ m). true≢false (grind (arith, nat_tests, here, e)) in
      apart n s p (is_key_of ssrc types s p) refl other (indexed n s p lt
      (ap (has s p) (sym (get_or-set_other ss m n Closed (Receiver no_receiver) other)) ∙ has_it))

  pub closed : IsIndexed has after (slice_set ss m Closed)
  closed n s p lt has_it =
      closed-at n s p (n == m) refl (omega (arith, lt, length-set ss m Closed)) has_it

-- A sending stream is closed.
pub closed-sender : (before after receivers : StreamIndex) (ss : List OpenStream) (m : ℕ) (x : Sending) (ssrc : ℕ)
    (types : PayloadTypes) → nth_stream ss m ≡ Sender x → x.ssrc ≡ ssrc → x.types ≡ types → m < length ss
    → ((s p : ℕ) → is_key_of ssrc types s p ≡ false → number_at after s p ≡ number_at before s p)
    → AreIndexed before receivers ss → AreIndexed after receivers (slice_set ss m Closed)
closed-sender before after receivers ss m x ssrc types is is_ssrc is_types within others indexed = record {
  sending = closed sends (λ s p. refl) before after ss m ssrc types (λ s p key. ap (sends s p) is
      ∙ ap₂ (λ (a : ℕ) (t : PayloadTypes). is_key_of a t s p) is_ssrc is_types ∙ key) within others indexed.sending;
  receiving = kept takes receivers ss m Closed (λ s p no. absurd (true≢false (sym no))) indexed.receiving;
}

-- A receiving stream is closed.
pub closed-receiver : (senders before after : StreamIndex) (ss : List OpenStream) (m : ℕ) (x : Receiving) (ssrc : ℕ)
    (types : PayloadTypes) → nth_stream ss m ≡ Receiver x → x.ssrc ≡ ssrc → x.types ≡ types → m < length ss
    → ((s p : ℕ) → is_key_of ssrc types s p ≡ false → number_at after s p ≡ number_at before s p)
    → AreIndexed senders before ss → AreIndexed senders after (slice_set ss m Closed)
closed-receiver senders before after ss m x ssrc types is is_ssrc is_types within others indexed = record {
  sending = kept sends senders ss m Closed (λ s p no. absurd (true≢false (sym no))) indexed.sending;
  receiving = closed takes (λ s p. refl) before after ss m ssrc types (λ s p key. ap (takes s p) is
      ∙ ap₂ (λ (a : ℕ) (t : PayloadTypes). is_key_of a t s p) is_ssrc is_types ∙ key) within others
      indexed.receiving;
}

-- as many streams, each with what the one before had
pub each-kept : (has : ℕ → ℕ → OpenStream → Bool) (index : StreamIndex) (ss ts : List OpenStream)
    → length ts ≡ length ss
    → ((n ssrc pt : ℕ) → n < length ss → has ssrc pt (nth_stream ts n) ≡ has ssrc pt (nth_stream ss n))
    → IsIndexed has index ss → IsIndexed has index ts
each-kept has index ss ts as_many same indexed n ssrc pt lt own =
    let before : n < length ss = omega (arith, lt, as_many) in
    indexed n ssrc pt before (sym (same n ssrc pt before) ∙ own)

-- ---- added

both-left : (a b : Bool) → (a && b) ≡ true → a ≡ true
both-left true b h = refl
both-left false b h = h

both-right : (a b : Bool) → (a && b) ≡ true → b ≡ true
both-right true b h = h
both-right false b h = absurd (true≢false (sym h))

eqb-is : (a b : ℕ) → (a == b) ≡ true → a ≡ b
eqb-is a b h = grind (arith, nat_tests)

-- what is no key of a new stream stays, and no stream before has one
module _ (has : ℕ → ℕ → OpenStream → Bool) (conflicts : ℕ → PayloadTypes → OpenStream → Bool)
    (not-has : (x : OpenStream) (ssrc : ℕ) (types : PayloadTypes) (s p : ℕ) → is_key_of ssrc types s p ≡ true
    → conflicts ssrc types x ≡ false → has s p x ≡ false) where
  others-stand : (before after : StreamIndex) (ss : List OpenStream) (ssrc : ℕ) (types : PayloadTypes)
      → ((s p : ℕ) → is_key_of ssrc types s p ≡ false → number_at after s p ≡ number_at before s p)
      → list_any (conflicts ssrc types) ss ≡ false → IsIndexed has before ss → IsIndexed has after ss
  others-stand before after ss ssrc types others free indexed n s p lt own = by (is_key_of ssrc types s p) refl where
    apart : (b : Bool) → conflicts ssrc types (nth_stream ss n) ≡ b → b ≡ false
    apart true is =
        absurd (true≢false (sym (list_any_at (conflicts ssrc types) ss n (Receiver no_receiver) lt is) ∙ free))
    apart false is = refl

    by : (b : Bool) → is_key_of ssrc types s p ≡ b → number_at after s p ≡ Some n
    by false key = others s p key ∙ indexed n s p lt own
    by true key =
        absurd (true≢false (sym own ∙ not-has (nth_stream ss n) ssrc types s p key (apart _ refl)))

-- one stream more
pushed : (has : ℕ → ℕ → OpenStream → Bool) (index : StreamIndex) (ss : List OpenStream) (x : OpenStream)
    → IsIndexed has index ss → ((ssrc pt : ℕ) → has ssrc pt x ≡ true → number_at index ssrc pt ≡ Some (length ss))
    → IsIndexed has index (ss ++ x ∷ [])
pushed has index ss x indexed new n ssrc pt lt own = by (nat_lt n (length ss)) refl where
  by : (b : Bool) → nat_lt n (length ss) ≡ b → number_at index ssrc pt ≡ Some n
  by true is =
      let before : n < length ss = grind (arith, nat_tests, is) in
      indexed n ssrc pt before
      (ap (has ssrc pt) (sym (get_or_append_left ss (x ∷ []) (Receiver no_receiver) n before)) ∙ own)
  by false is =
      let more : length (ss ++ x ∷ []) ≡ length ss + 1 = length-append ss (x ∷ []) in
      let last : n ≡ length ss = grind (arith, nat_tests, is, lt, more) in
      new ssrc pt (ap (has ssrc pt) (sym (ap (nth_stream (ss ++ x ∷ [])) last
      ∙ get_or_push ss x (Receiver no_receiver) (length ss) refl)) ∙ own) ∙ ap Some (sym last)

not-sent : (x : OpenStream) (ssrc : ℕ) (types : PayloadTypes) (s p : ℕ) → is_key_of ssrc types s p ≡ true
    → sends_as ssrc types x ≡ false → sends s p x ≡ false
not-sent (Receiver r) ssrc types s p among none = refl
not-sent Closed ssrc types s p among none = refl
not-sent (Sender t) ssrc types s p among none = by (is_key_of t.ssrc t.types s p) refl where
  by : (b : Bool) → is_key_of t.ssrc t.types s p ≡ b → is_key_of t.ssrc t.types s p ≡ false
  by true e = absurd (true≢false (sym (shares t.ssrc t.types ssrc types s p e among) ∙ none))
  by false e = e

-- A receiving stream may be added: its keys are nobody's.
pub may-receive : (senders before after : StreamIndex) (ss : List OpenStream) (ssrc : ℕ) (types : PayloadTypes)
    → ((s p : ℕ) → is_key_of ssrc types s p ≡ false → number_at after s p ≡ number_at before s p)
    → list_any (receives_as ssrc types) ss ≡ false → AreIndexed senders before ss → AreIndexed senders after ss
may-receive senders before after ss ssrc types others free indexed = record {
  sending = indexed.sending;
  receiving = others-stand takes receives_as not-taken before after ss ssrc types others free indexed.receiving;
}

pub may-send : (before after receivers : StreamIndex) (ss : List OpenStream) (ssrc : ℕ) (types : PayloadTypes)
    → ((s p : ℕ) → is_key_of ssrc types s p ≡ false → number_at after s p ≡ number_at before s p)
    → list_any (sends_as ssrc types) ss ≡ false → AreIndexed before receivers ss → AreIndexed after receivers ss
may-send before after receivers ss ssrc types others free indexed = record {
  sending = others-stand sends sends_as not-sent before after ss ssrc types others free indexed.sending;
  receiving = indexed.receiving;
}

-- It is added under them.
pub added-receiver : (senders receivers : StreamIndex) (ss : List OpenStream) (r : Receiving)
    → AreIndexed senders receivers ss
    → ((s p : ℕ) → is_key_of r.ssrc r.types s p ≡ true → number_at receivers s p ≡ Some (length ss))
    → AreIndexed senders receivers (ss ++ Receiver r ∷ [])
added-receiver senders receivers ss r indexed set = record {
  sending = pushed sends senders ss (Receiver r) indexed.sending (λ s p no. absurd (true≢false (sym no)));
  receiving = pushed takes receivers ss (Receiver r) indexed.receiving set;
}

pub added-sender : (senders receivers : StreamIndex) (ss : List OpenStream) (x : Sending)
    → AreIndexed senders receivers ss
    → ((s p : ℕ) → is_key_of x.ssrc x.types s p ≡ true → number_at senders s p ≡ Some (length ss))
    → AreIndexed senders receivers (ss ++ Sender x ∷ [])
added-sender senders receivers ss x indexed set = record {
  sending = pushed sends senders ss (Sender x) indexed.sending set;
  receiving = pushed takes receivers ss (Sender x) indexed.receiving (λ s p no. absurd (true≢false (sym no)));
}

-- the same, by the stream's SSRC and types as they were handed in
pub receiver-added : (senders receivers : StreamIndex) (ss : List OpenStream) (r : Receiving) (ssrc : ℕ)
    (types : PayloadTypes) (number : ℕ) → r.ssrc ≡ ssrc → r.types ≡ types → number ≡ length ss
    → AreIndexed senders receivers ss
    → ((s p : ℕ) → is_key_of ssrc types s p ≡ true → number_at receivers s p ≡ Some number)
    → AreIndexed senders receivers (ss ++ Receiver r ∷ [])
receiver-added senders receivers ss r ssrc types number is_ssrc is_types last indexed set =
    added-receiver senders receivers ss r indexed (λ s p own.
    set s p (ap₂ (λ (a : ℕ) (t : PayloadTypes). is_key_of a t s p) (sym is_ssrc) (sym is_types) ∙ own) ∙ ap Some last)

pub sender-added : (senders receivers : StreamIndex) (ss : List OpenStream) (x : Sending) (ssrc : ℕ)
    (types : PayloadTypes) (number : ℕ) → x.ssrc ≡ ssrc → x.types ≡ types → number ≡ length ss
    → AreIndexed senders receivers ss
    → ((s p : ℕ) → is_key_of ssrc types s p ≡ true → number_at senders s p ≡ Some number)
    → AreIndexed senders receivers (ss ++ Sender x ∷ [])
sender-added senders receivers ss x ssrc types number is_ssrc is_types last indexed set =
    added-sender senders receivers ss x indexed (λ s p own.
    set s p (ap₂ (λ (a : ℕ) (t : PayloadTypes). is_key_of a t s p) (sym is_ssrc) (sym is_types) ∙ own) ∙ ap Some last)

-- ---- polled

as-polled : (r : Receiving) (y : OpenStream) → receiving_of y ≡ with_stream r (receiving_of y).stream
    → y ≡ Receiver (receiving_of y) → y ≡ Receiver (with_stream r (receiving_of y).stream)
as-polled r y same is = is ∙ ap Receiver same

some-takes : (x y : OpenStream) → AnswersSome x y → (s p : ℕ) → takes s p y ≡ takes s p x
some-takes (Sender t) y a s p = ap (takes s p) a
some-takes Closed y a s p = ap (takes s p) a
some-takes (Receiver r) y a s p = ap (takes s p) (as-polled r y (some-keeps a.0) a.1)

some-sends : (x y : OpenStream) → AnswersSome x y → (s p : ℕ) → sends s p y ≡ sends s p x
some-sends (Sender t) y a s p = ap (sends s p) a
some-sends Closed y a s p = ap (sends s p) a
some-sends (Receiver r) y a s p = ap (sends s p) (as-polled r y (some-keeps a.0) a.1)

all-takes : (x y : OpenStream) (answers : Answers) → AnswersAll x answers y → (s p : ℕ) → takes s p y ≡ takes s p x
all-takes (Sender t) y answers a s p = ap (takes s p) a.1
all-takes Closed y answers a s p = ap (takes s p) a.1
all-takes (Receiver r) y answers a s p = ap (takes s p) (as-polled r y (polled-keeps a.0) a.1)

all-sends : (x y : OpenStream) (answers : Answers) → AnswersAll x answers y → (s p : ℕ) → sends s p y ≡ sends s p x
all-sends (Sender t) y answers a s p = ap (sends s p) a.1
all-sends Closed y answers a s p = ap (sends s p) a.1
all-sends (Receiver r) y answers a s p = ap (sends s p) (as-polled r y (polled-keeps a.0) a.1)

pub polled-some : (senders receivers : StreamIndex) (ss ts : List OpenStream) → ArePolledSome ss ts
    → AreIndexed senders receivers ss → AreIndexed senders receivers ts
polled-some senders receivers ss ts h indexed = record {
  sending = each-kept sends senders ss ts h.as_many (λ n s p lt. some-sends _ _ (h.each n lt) s p) indexed.sending;
  receiving = each-kept takes receivers ss ts h.as_many (λ n s p lt. some-takes _ _ (h.each n lt) s p)
      indexed.receiving;
}

pub polled-out : (senders receivers : StreamIndex) (ss ts : List OpenStream) (answers : List Answers)
    → ArePolledOut ss answers ts → AreIndexed senders receivers ss → AreIndexed senders receivers ts
polled-out senders receivers ss ts answers h indexed = record {
  sending = each-kept sends senders ss ts h.as_many (λ n s p lt. all-sends _ _ _ (h.each n lt) s p) indexed.sending;
  receiving = each-kept takes receivers ss ts h.as_many (λ n s p lt. all-takes _ _ _ (h.each n lt) s p)
      indexed.receiving;
}

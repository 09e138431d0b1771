-- Streams that were polled some times, for lack of memory.
use Rattle.std.proofs.Common.{◌≡◌, ◌≢◌, ℕ, ◌<◌, ◌≤◌, refl, sym, ◌∙◌, subst, arith, Bool, true, false, List}
use Rattle.std.proofs.Common.{length, length-set}
use Rattle.std.proofs.lemmas.Bool.Decides.{nat_tests}
use Rattle.std.proofs.lemmas.List.{get_or-set_same, get_or-set_other}
use Rattle.std.specs.Prelude.{◌==◌, nat_lt, slice_set}
use Rattle.rtp_media_streams.specs.Polls.{Answers, NoMore, poll_step}
use Rattle.rtp_media_streams.proofs.Polling.{polled-some}
use Rattle.rtp_media_stream_table.specs.Streams.{no_receiver, nth_stream}
use Rattle.rtp_media_stream_table.specs.declared.open_stream.OpenStream.{OpenStream}
use Rattle.rtp_media_stream_table.specs.declared.open_stream.OpenStream.TheVariants.{Closed, Sender, Receiver}
use Rattle.rtp_media_stream_table.specs.Polled.{AnswersAll, AnswersSome, ArePolledSome, answers_at}

pub out-some : (before : OpenStream) (after : OpenStream) (answers : Answers) → AnswersAll before answers after
    → AnswersSome before after
out-some (Sender s) after answers out = out.1
out-some Closed after answers out = out.1
out-some (Receiver r) after answers out = (polled-some poll_step out.0, out.1)

untouched : (x : OpenStream) → AnswersSome x x
untouched (Sender s) = refl
untouched (Receiver r) = (NoMore, refl)
untouched Closed = refl

eqb-is : (a b : ℕ) → (a == b) ≡ true → a ≡ b
eqb-is a b h = grind (arith, nat_tests)

ne-of : (a b : ℕ) → (a == b) ≡ false → a ≢ b
ne-of a b h = grind (arith, nat_tests)

lt-of : (a b : ℕ) → nat_lt a b ≡ true → a < b
lt-of a b h = grind (arith, nat_tests)

ge-of : (a b : ℕ) → nat_lt a b ≡ false → b ≤ a
ge-of a b h = grind (arith, nat_tests)

module _ (before now : List OpenStream) (answers : List Answers) (i : ℕ) (as_many : length now ≡ length before)
    (done : (n : ℕ) → n < i → AnswersAll (nth_stream before n) (answers_at answers n) (nth_stream now n))
    (ahead : (n : ℕ) → i ≤ n → nth_stream now n ≡ nth_stream before n) where
  -- the streams below this one are polled out, and the others are as they were
  so-far : (n : ℕ) → (b : Bool) → nat_lt n i ≡ b → AnswersSome (nth_stream before n) (nth_stream now n)
  so-far n true e = out-some (nth_stream before n) (nth_stream now n) (answers_at answers n)
      (done n (lt-of n i e))
  so-far n false e = subst (λ (r : OpenStream). AnswersSome (nth_stream before n) r) (sym (ahead n (ge-of n i e)))
      (untouched (nth_stream before n))

  -- this one was polled some times
  pub stopped-at : (r : OpenStream) → i < length before → AnswersSome (nth_stream before i) r
      → ArePolledSome before (slice_set now i r)
  stopped-at r lt was = record {
    as_many = length-set now i r ∙ as_many;
    each = λ n within. go n (n == i) refl;
  } where
    go : (n : ℕ) (same : Bool) → (n == i) ≡ same
        → AnswersSome (nth_stream before n) (nth_stream (slice_set now i r) n)
    go n true e =
        subst (λ (k : ℕ). AnswersSome (nth_stream before k) (nth_stream (slice_set now i r) k))
        (sym (eqb-is n i e))
        (subst (λ (x : OpenStream). AnswersSome (nth_stream before i) x)
        (sym (get_or-set_same now i r (Receiver no_receiver) (omega (arith, lt, as_many)))) was)
    go n false e =
        subst (λ (x : OpenStream). AnswersSome (nth_stream before n) x)
        (sym (get_or-set_other now i n r (Receiver no_receiver) (ne-of n i e))) (so-far n (nat_lt n i) refl)

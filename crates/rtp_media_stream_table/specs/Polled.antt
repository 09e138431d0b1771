use Rattle.std.specs.Prelude.{ℕ, ◌≡◌, ◌<◌, List, [], length}
use Rattle.std.specs.Prelude.{slice_index_or}
use Rattle.rtp_media_streams.specs.Polls.{Answers, IsPolled, IsPolledSome, poll_step}
use Rattle.rtp_media_stream_table.specs.Streams.{nth_stream, receiving_of}
use Rattle.rtp_media_stream_table.specs.declared.open_stream.OpenStream.{OpenStream}
use Rattle.rtp_media_stream_table.specs.declared.open_stream.OpenStream.TheVariants.{Closed, Sender, Receiver}

-- A receiving stream is polled until None or lack of memory; any other answers nothing and doesn't change.
abbrev pub AnswersAll : OpenStream → Answers → OpenStream → Type 0
AnswersAll (Sender s) answers after = (answers ≡ []) × (after ≡ Sender s)
AnswersAll (Receiver r) answers after =
    IsPolled poll_step r answers (receiving_of after) × (after ≡ Receiver (receiving_of after))
AnswersAll Closed answers after = (answers ≡ []) × (after ≡ Closed)

-- A receiving stream is polled any number of times; any other doesn't change.
abbrev pub AnswersSome : OpenStream → OpenStream → Type 0
AnswersSome (Sender s) after = after ≡ Sender s
AnswersSome (Receiver r) after = IsPolledSome poll_step r (receiving_of after) × (after ≡ Receiver (receiving_of after))
AnswersSome Closed after = after ≡ Closed

-- Each receiving stream was polled some times, or none.
pub record ArePolledSome (before after : List OpenStream) : Type 0 where
  pub as_many : length after ≡ length before
  pub each : (n : ℕ) → n < length before → AnswersSome (nth_stream before n) (nth_stream after n)

-- The answers of the n-th stream.
abbrev pub answers_at : List Answers → ℕ → Answers
answers_at answers n = slice_index_or answers n []

-- Each receiving stream was polled until None or lack of memory.
pub record ArePolledOut (before : List OpenStream) (answers : List Answers) (after : List OpenStream) : Type 0 where
  pub as_many : length after ≡ length before
  pub as_many_answers : length answers ≡ length before
  pub each : (n : ℕ) → n < length before → AnswersAll (nth_stream before n) (answers_at answers n) (nth_stream after n)

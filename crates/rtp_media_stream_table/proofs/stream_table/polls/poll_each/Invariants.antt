use Rattle.std.proofs.Common.{◌≡◌, ℕ, ◌<◌, ◌≤◌, length}
use Rattle.rtp_media_stream_table.specs.Streams.{nth_stream}
use Rattle.rtp_media_stream_table.specs.Polled.{AnswersAll, answers_at}
use Rattle.rtp_media_stream_table.proofs.stream_table.polls.poll_each.Given as goal

-- the streams below this one are polled out, and the others are as they were
abbrev pub invariant-loop-number : goal.invariant-loop-number
invariant-loop-number l = record {
  streams : length l.streams.items ≡ length l.initial.streams.items;
  polls : length l.polls.items ≡ l.number;
  done : (n : ℕ) → n < l.number → AnswersAll (nth_stream l.initial.streams.items n) (answers_at l.polls.items n)
      (nth_stream l.streams.items n);
  ahead : (n : ℕ) → l.number ≤ n → nth_stream l.streams.items n ≡ nth_stream l.initial.streams.items n;
}

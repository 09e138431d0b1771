-- What a receiving stream does whose buffer pops; and polls until None or lack of memory, as far as a loop has come.
use Rattle.std.proofs.Common.{◌≡◌, ◌≢◌, ◌<◌, refl, sym, ◌∙◌, ap, subst, [], ◌∷◌, ◌++◌, append_assoc, length}
use Rattle.std.specs.Prelude.{Option, Some, None, Result, Ok, Err}
use Rattle.payload_core_base.specs.Format.{Format}
use Rattle.payload_core_buffer.specs.Buffered.{Holding}
use Rattle.payload_core_buffer.specs.Pops.{PopState}
use Rattle.payload_core_buffer.specs.Steps.{AnswersBy, PollStep, pop_step}
use Rattle.rtp_media_schedules.specs.Drains.{holding_back}
use Rattle.payload_core_buffer.specs.Steps.{Answer, MediaUnit}
use Rattle.rtp_media_schedules.specs.Hearing.{Stream, kept_of, with_kept}
use Rattle.rtp_media_schedules.proofs.PollSteps.{less-after, step-answer, step-next, step-stops}
use Rattle.rtp_media_streams.specs.Polls.{Answers, Faults, HandsOut, IsPolled, IsPolledSome, NoMore, Once, Short}
use Rattle.rtp_media_streams.specs.Polls.{Silent}
use Rattle.rtp_media_streams.specs.Polls.{WantsMemory, drain_step, poll_step}
use Rattle.rtp_media_streams.specs.Receiving.{Receiving, with_stream}
use Rattle.rtp_media_streams.specs.Rows.{format_of}
use Rattle.rtp_media_streams.specs.declared.errors.PollFault.{PollFault}

-- a stream that was opened with this to hold
abbrev pub opened_with : Holding → Stream → Stream
opened_with holding s = record s { holding = holding }

-- a pop at the stream's hold-back is its poll
pub polls : (r : Receiving) (format : Format) (holding : Holding) (k : PopState) (a : Option Answer)
    → format ≡ format_of r.row → holding ≡ r.stream.holding
    → AnswersBy (pop_step format r.stream.holding.hold_back (kept_of r.stream)) k a
    → AnswersBy (poll_step r) (with_stream r (with_kept (opened_with holding r.stream) k)) a
polls r format holding k (Some a) same count is = rw (count, ← same) (
  is.0 ∙ step-answer format r.stream,
  ap (λ (x : PopState). with_stream r (with_kept r.stream x)) is.1 ∙ ap (with_stream r) (step-next format r.stream),
)
polls r format holding k None same count is = rw (count, ← same) (step-stops format r.stream k is, refl)

-- a pop that holds nothing back is its drain
pub drains : (r : Receiving) (format : Format) (holding : Holding) (k : PopState) (a : Option Answer)
    → format ≡ format_of r.row → holding ≡ r.stream.holding
    → AnswersBy (pop_step format 0 (kept_of r.stream)) k a
    → AnswersBy (drain_step r) (with_stream r (with_kept (opened_with holding r.stream) k)) a
drains r format holding k (Some a) same count is = rw (count, ← same) (
  is.0 ∙ step-answer format (holding_back 0 r.stream),
  ap (λ (x : PopState). with_stream r (with_kept r.stream x)) is.1
      ∙ ap (λ s. with_stream r (holding_back r.stream.holding.hold_back s))
      (step-next format (holding_back 0 r.stream)),
)
drains r format holding k None same count is =
    rw (count, ← same) (step-stops format (holding_back 0 r.stream) k is, refl)

-- the same of a stream that is seen as another one
module _ (x r : Receiving) (same : x ≡ r) (format : Format) (holding : Holding) (k : PopState) (a : Option Answer)
    (row : format ≡ format_of x.row) (count : holding ≡ x.stream.holding) where
  abbrev behind : Receiving
  behind = with_stream x (with_kept (opened_with holding x.stream) k)

  pub poll-seen : AnswersBy (pop_step format x.stream.holding.hold_back (kept_of x.stream)) k a
      → AnswersBy (poll_step r) behind a
  poll-seen is = subst (λ (y : Receiving). AnswersBy (poll_step y) behind a) same
      (polls x format holding k a row count is)

  pub drain-seen : AnswersBy (pop_step format 0 (kept_of x.stream)) k a → AnswersBy (drain_step r) behind a
  drain-seen is = subst (λ (y : Receiving). AnswersBy (drain_step y) behind a) same
      (drains x format holding k a row count is)

-- fewer are held after an answer
pub fewer-held : (r m : Receiving) (a : Answer) → AnswersBy (poll_step r) m (Some a) → a ≢ Ok None
    → length m.stream.held < length r.stream.held
fewer-held r m a is some =
    rw is.1 (less-after (format_of r.row) r.stream (λ none. some (is.0 ∙ none)))

-- the answers so far, and then whatever the stream as it is now answers, are what it answers from the start
module _ {S : Type 0} (step : S → PollStep S) where
  abbrev pub IsPolledSo : S → S → Answers → Type 0
  IsPolledSo start now answers = (more : Answers) (after : S) → IsPolled step now more after
      → IsPolled step start (answers ++ more) after

  pub polled_more : (start now next : S) (r : Result MediaUnit PollFault) (answers answers' : Answers)
      → ((more : Answers) (after : S) → IsPolled step next more after → IsPolled step now (r ∷ more) after)
      → answers' ≡ answers ++ r ∷ [] → IsPolledSo start now answers → IsPolledSo start next answers'
  polled_more start now next r answers answers' one same so more after rest =
      subst (λ (os : Answers). IsPolled step start os after)
      (sym (ap (λ (os : Answers). os ++ more) same ∙ append_assoc answers (r ∷ []) more))
      (so (r ∷ more) after (one more after rest))

  -- polls until None or lack of memory are some polls
  pub polled-some : {s t : S} {os : Answers} → IsPolled step s os t → IsPolledSome step s t
  polled-some (Silent none) = Once none NoMore
  polled-some (HandsOut some rest) = Once some (polled-some rest)
  polled-some (Faults fault rest) = Once fault (polled-some rest)
  polled-some (WantsMemory wants) = Short wants

-- what keeps all but what is heard
pub step-keeps : (r t : Receiving) (a : Option Answer) → AnswersBy (poll_step r) t a → t ≡ with_stream r t.stream
step-keeps r t (Some a) is = is.1 ∙ ap (with_stream r) (sym (ap (λ (x : Receiving). x.stream) is.1))
step-keeps r t None is = is.1

pub drain-keeps : (r t : Receiving) (a : Option Answer) → AnswersBy (drain_step r) t a → t ≡ with_stream r t.stream
drain-keeps r t (Some a) is = is.1 ∙ ap (with_stream r) (sym (ap (λ (x : Receiving). x.stream) is.1))
drain-keeps r t None is = is.1 ∙ ap (with_stream r) (sym (ap (λ (x : Receiving). x.stream) is.1))

also-keeps : (r m t : Receiving) → m ≡ with_stream r m.stream → t ≡ with_stream m t.stream → t ≡ with_stream r t.stream
also-keeps r m t first then = then ∙ ap (λ (x : Receiving). with_stream x t.stream) first

pub polled-keeps : {r t : Receiving} {os : Answers} → IsPolled poll_step r os t → t ≡ with_stream r t.stream
polled-keeps (Silent {s = s} {t = t} none) = step-keeps s t (Some (Ok None)) none
polled-keeps (HandsOut {s = s} {m = m} {t = t} {u = u} some rest) =
    also-keeps s m t (step-keeps s m (Some (Ok (Some u))) some) (polled-keeps rest)
polled-keeps (Faults {s = s} {m = m} {t = t} {e = e} fault rest) =
    also-keeps s m t (step-keeps s m (Some (Err e)) fault) (polled-keeps rest)
polled-keeps (WantsMemory {s = s} {t = t} wants) = step-keeps s t None wants

pub some-keeps : {r t : Receiving} → IsPolledSome poll_step r t → t ≡ with_stream r t.stream
some-keeps NoMore = refl
some-keeps (Once {s = s} {m = m} {t = t} {a = a} one rest) =
    also-keeps s m t (step-keeps s m (Some a) one) (some-keeps rest)
some-keeps (Short {s = s} {t = t} wants) = step-keeps s t None wants

-- Units that enough polls hand out, and the answers of polls until None or lack of memory.
use Rattle.std.proofs.Common.{◌≡◌, ◌≢◌, ℕ, zero, suc, refl, sym, ◌∙◌, ap, subst, arith, List, [], ◌∷◌, map, replicate}
use Rattle.std.proofs.Common.{inl, inr}
use Rattle.std.specs.Prelude.{Option, Some, None, Result, Ok, Err}
use Rattle.payload_core_base.specs.Format.{Format}
use Rattle.payload_core_base.specs.declared.error.PacketError.{PacketError}
use Rattle.payload_core_base.specs.declared.extra.CodecExtra.{CodecExtra}
use Rattle.payload_core_buffer.specs.declared.held.RtpMeta.{RtpMeta}
use Rattle.payload_core_buffer.specs.Steps.{Answer, answer_among}
use Rattle.rtp_media_schedules.specs.Hearing.{EndsSilent, Event, IsInterrupted, Poll, Stream}
use Rattle.payload_core_buffer.specs.Steps.{answer_by}
use Rattle.rtp_media_schedules.specs.Hearing.{handed_out, heard, poll_answer}
use Rattle.rtp_media_schedules.specs.SentSamples.{Timed, timed_unit}
use Rattle.rtp_media_schedules.proofs.Cuts.{silent-stays}
use Rattle.rtp_media_streams.specs.Polls.{Answers, AreAnswered, Faults, HandsOut, IsPolled, Silent, WantsMemory}
use Rattle.rtp_media_streams.specs.Polls.{poll_step, timed_answer}
use Rattle.rtp_media_streams.specs.Receiving.{Receiving, polled_receiver}
use Rattle.rtp_media_streams.specs.Rows.{format_of}
use Rattle.rtp_media_streams.specs.declared.errors.PollFault.{PollFault}
use Rattle.rtp_media_streams.specs.declared.errors.PollFault.TheVariants.{Memory, Payload}

module _ (format : Format) where
  -- so many polls
  abbrev pub polls : ℕ → List Event
  polls n = replicate n Poll

  -- once a poll answers None, all do
  silent-on : (n : ℕ) (s : Stream) → poll_answer format s ≡ Ok None → handed_out (heard format s (polls n)) ≡ []
  silent-on zero s none = refl
  silent-on (suc n) s none = rw (none, silent-stays format s none) (silent-on n s none)

  something : (o : Option PacketError) (metas : List RtpMeta) (bytes : List ℕ) (extra : CodecExtra)
      → answer_by o metas bytes extra ≡ Ok None → ⊥
  something None metas bytes extra h = cc
  something (Some e) metas bytes extra h = cc

  -- memory runs out only if a frame is ready
  wants-something : (s t : Stream) → IsInterrupted format s t → poll_answer format s ≢ Ok None
  unfolding poll_answer
  wants-something s t wants none =
      something _ _ _ _ (sym (ap (answer_among format s.fragment s.held) wants.is_due) ∙ none)

-- if enough polls hand out these units, they are the answers, as far as memory was found
abbrev pub heard_polls : Receiving → ℕ → List Answer
heard_polls r n = heard (format_of r.row) r.stream (polls (format_of r.row) n)

pub answered : {r t : Receiving} {os : Answers} → IsPolled poll_step r os t → (n : ℕ) (ts : List Timed)
    → EndsSilent (heard_polls r n) → map timed_unit (handed_out (heard_polls r n)) ≡ map Ok ts → AreAnswered ts os
answered p zero ts silent h = absurd silent
answered (Silent {s = s} none) (suc n) ts silent h =
    nothing ts (map timed_unit (handed_out (heard_polls s (suc n))))
    (ap (map timed_unit) (silent-on (format_of s.row) (suc n) s.stream (sym none.0))) h where
      nothing : (ts : List Timed) (rs : List (Result Timed PacketError)) → rs ≡ [] → rs ≡ map Ok ts
          → AreAnswered ts []
      nothing [] rs a b = inl refl
      nothing (x ∷ ts) rs a b = cc
answered (HandsOut {s = s} {m = m} {t = t} {u = u} {os = os} some rest) (suc n) ts silent h =
    go (subst (λ (x : Receiving). (n : ℕ) (ts : List Timed) → EndsSilent (heard_polls x n)
    → map timed_unit (handed_out (heard_polls x n)) ≡ map Ok ts → AreAnswered ts os) some.1
    (λ n ts. answered rest n ts)) n ts (subst
    (λ (a : Answer). EndsSilent (a ∷ heard_polls (polled_receiver s) n)) (sym some.0) silent)
    (subst (λ (a : Answer). map timed_unit (handed_out (a ∷ heard_polls (polled_receiver s) n)) ≡ map Ok ts)
    (sym some.0) h) where
      more : (x : Timed) (ts : List Timed) → AreAnswered ts os → timed_answer (Ok u) ≡ Ok x
          → AreAnswered (x ∷ ts) (Ok u ∷ os)
      more x ts (inl all) same = inl (ap (λ (r : Result Timed PollFault). r ∷ map timed_answer os) same
          ∙ ap (λ (rs : List (Result Timed PollFault)). Ok x ∷ rs) all)
      more x ts (inr short) same = inr (record {
        count = suc short.count;
        stopped = omega (arith, short.stopped);
        answers_are = ap (λ (r : Result Timed PollFault). r ∷ map timed_answer os) same
            ∙ ap (λ (rs : List (Result Timed PollFault)). Ok x ∷ rs) short.answers_are;
      })

      go : ((n : ℕ) (ts : List Timed) → EndsSilent (heard_polls (polled_receiver s) n)
          → map timed_unit (handed_out (heard_polls (polled_receiver s) n)) ≡ map Ok ts → AreAnswered ts os) →
          (n : ℕ) (ts : List Timed) → EndsSilent (Ok (Some u) ∷ heard_polls (polled_receiver s) n)
          → Ok (record { time = u.time; values = u.values; bytes = u.bytes })
          ∷ map timed_unit (handed_out (heard_polls (polled_receiver s) n)) ≡ map Ok ts
          → AreAnswered ts (Ok u ∷ os)
      go ih zero ts silent h = cc
      go ih (suc n) [] silent h = cc
      go ih (suc n) (x ∷ ts) silent h = more x ts (ih (suc n) ts silent cc) cc
answered (Faults {s = s} {e = e} {os = os} fault rest) (suc n) ts silent h =
    go ts (subst (λ (a : Answer). map timed_unit (handed_out (a ∷ heard_polls (polled_receiver s) n))
    ≡ map Ok ts) (sym fault.0) h) where
      go : (ts : List Timed) → Err e ∷ map timed_unit (handed_out (heard_polls (polled_receiver s) n))
          ≡ map Ok ts → AreAnswered ts (Err (Payload e) ∷ os)
      go [] h = cc
      go (x ∷ ts) h = cc
answered (WantsMemory {s = s} {t = t} wants) (suc n) ts silent h =
    go (poll_answer (format_of s.row) s.stream) refl ts h where
      go : (a : Answer) → poll_answer (format_of s.row) s.stream ≡ a → (ts : List Timed)
          → map timed_unit (handed_out (a ∷ heard_polls (polled_receiver s) n)) ≡ map Ok ts
          → AreAnswered ts (Err Memory ∷ [])
      go (Ok None) e ts h = absurd (wants-something (format_of s.row) s.stream t.stream wants.0 e)
      go (Ok (Some u)) e [] h = cc
      go (Ok (Some u)) e (x ∷ ts) h = inr (record { count = 0; stopped = omega arith; answers_are = refl })
      go (Err x) e [] h = cc
      go (Err x) e (y ∷ ts) h = cc

-- Polls that come to an end.
use Rattle.std.proofs.Common.{◌≡◌, ℕ, zero, suc, ◌≤◌, refl, sym, subst, arith, ◌∷◌, length}
use Rattle.std.proofs.Common.{replicate}
use Rattle.std.specs.Prelude.{Option, None, Some}
use Rattle.std.proofs.lemmas.List.{length-drop}
use Rattle.payload_core_base.specs.Format.{Format}
use Rattle.payload_core_buffer.specs.Frames.{IsFrame}
use Rattle.payload_core_buffer.specs.declared.frame.Frame.{Frame}
use Rattle.rtp_media_schedules.specs.Hearing.{EndsSilent, Poll, Stream, due, heard, poll_answer}
use Rattle.rtp_media_schedules.specs.Hearing.{stream_behind}
use Rattle.rtp_media_schedules.proofs.Sane.{due-is, poll_answer-is, polled-is}

-- once a poll answers None, the later ones do
pub silent-on : (format : Format) (n : ℕ) (s : Stream) → due format s ≡ None
    → EndsSilent (heard format s (replicate (suc n) Poll))
silent-on format zero s none = poll_answer-is format s None none
silent-on format (suc n) s none =
    subst (λ (t : Stream). EndsSilent (poll_answer format s ∷ heard format t (replicate (suc n) Poll)))
    (sym (polled-is format s None none)) (silent-on format n s none)

-- after at most as many polls as packets are held one answers None
pub polls-end : (format : Format) (n : ℕ) (s : Stream) → length s.held ≤ n
    → EndsSilent (heard format s (replicate (suc n) Poll))
polls-end format zero s few = go (due format s) refl where
  go : (o : Option Frame) → due format s ≡ o → EndsSilent (heard format s (replicate 1 Poll))
  go None e = silent-on format 0 s e
  go (Some f) e = let is : IsFrame format s.held f = due-is format s f e in
      absurd (omega (arith, few, is.not_empty, is.in_range))
polls-end format (suc n) s few = go (λ t. polls-end format n t) (due format s) refl where
  go : ((t : Stream) → length t.held ≤ n → EndsSilent (heard format t (replicate (suc n) Poll))) → (o : Option Frame)
      → due format s ≡ o → EndsSilent (heard format s (replicate (suc (suc n)) Poll))
  go ih None e = silent-on format (suc n) s e
  go ih (Some f) e =
      let is : IsFrame format s.held f = due-is format s f e in
      subst (λ (t : Stream). EndsSilent (poll_answer format s ∷ heard format t (replicate (suc n) Poll)))
      (sym (polled-is format s (Some f) e))
      (ih (stream_behind format s (Some f)) (omega (arith, few, is.not_empty, is.in_range, length-drop f.end s.held)))

-- A pop of what a stream keeps is a poll of the stream.
use Rattle.std.proofs.Common.{◌≡◌, ◌≢◌, ◌<◌, refl, sym, ◌∙◌, ap, subst, arith, ℕ, List, [], ◌∷◌, length}
use Rattle.std.specs.Prelude.{Option, Some, None, Ok}
use Rattle.std.proofs.lemmas.List.{length-drop}
use Rattle.payload_core_base.specs.Format.{Format}
use Rattle.payload_core_base.specs.declared.error.PacketError.{PacketError}
use Rattle.payload_core_base.specs.declared.extra.CodecExtra.{CodecExtra}
use Rattle.payload_core_buffer.specs.Frames.{IsFrame, complete_frames, due_frame, lowest_of}
use Rattle.payload_core_buffer.specs.Packets.{Packet}
use Rattle.payload_core_buffer.specs.Pops.{PopState, ReadsPart}
use Rattle.payload_core_buffer.specs.Steps.{kept_behind, packets_of_due, pop_step}
use Rattle.payload_core_buffer.specs.declared.frame.Frame.{Frame}
use Rattle.payload_core_buffer.specs.declared.held.RtpMeta.{RtpMeta}
use Rattle.payload_core_buffer.proofs.DrainLemmas.{drain_law}
use Rattle.rtp_media_schedules.specs.Drains.{holding_back}
use Rattle.rtp_media_schedules.specs.Hearing.{IsInterrupted, Stream, due, kept_of}
use Rattle.payload_core_buffer.specs.Steps.{answer_among, answer_by}
use Rattle.rtp_media_schedules.specs.Hearing.{poll_answer, polled, stream_behind, with_kept}
use Rattle.rtp_media_schedules.proofs.Sane.{due-is}

pub step-answer : (format : Format) (s : Stream) → (pop_step format s.holding.hold_back (kept_of s)).answer
    ≡ poll_answer format s
unfolding poll_answer due
step-answer format s = refl

pub step-next : (format : Format) (s : Stream)
    → with_kept s (pop_step format s.holding.hold_back (kept_of s)).next ≡ polled format s
unfolding polled due
step-next format s = go (due_frame format s.cutoff s.holding.hold_back s.held) where
  go : (o : Option Frame) → with_kept s (kept_behind format (kept_of s) o) ≡ stream_behind format s o
  go None = refl
  go (Some f) = refl

pub step-stops : (format : Format) (s : Stream) (k : PopState)
    → (pop_step format s.holding.hold_back (kept_of s)).Stopped k
    → IsInterrupted format s (with_kept s k)
unfolding due
step-stops format s k is = go (due_frame format s.cutoff s.holding.hold_back s.held) refl where
  go : (o : Option Frame) → due_frame format s.cutoff s.holding.hold_back s.held ≡ o
      → IsInterrupted format s (with_kept s k)
  go None e =
      let part : ReadsPart format s.fragment [] k.fragment =
      subst (λ (ps : List Packet). ReadsPart format s.fragment ps k.fragment) (ap (packets_of_due s.held) e) is.0 in
      absurd (omega (arith, part.stopped))
  go (Some f) e = record {
    frame = f;
    is_due = e;
    stops = subst (λ (ps : List Packet). ReadsPart format s.fragment ps k.fragment) (ap (packets_of_due s.held) e) is.0;
    stays = ap (with_kept s) is.1;
  }

-- a drain answers None only if no frame is complete
something : (o : Option PacketError) (metas : List RtpMeta) (bytes : List ℕ) (extra : CodecExtra)
    → answer_by o metas bytes extra ≢ Ok None
something None metas bytes extra h = cc
something (Some e) metas bytes extra h = cc

pub none-left : (format : Format) (s : Stream) → poll_answer format (holding_back 0 s) ≡ Ok None
    → complete_frames format s.held ≡ []
none-left format s none = go (complete_frames format s.held) refl where
  go : (fs : List Frame) → complete_frames format s.held ≡ fs → complete_frames format s.held ≡ []
  go [] e = e
  go (f ∷ fs) e = absurd (something _ _ _ _
      (sym (ap (answer_among format s.fragment s.held) (drain_law format s.cutoff s.held ∙ ap lowest_of e))
      ∙ step-answer format (holding_back 0 s) ∙ none))

-- a poll that answers something leaves fewer
pub less-after : (format : Format) (s : Stream) → poll_answer format s ≢ Ok None
    → length (polled format s).held < length s.held
unfolding polled poll_answer due
less-after format s some = go (due_frame format s.cutoff s.holding.hold_back s.held) refl where
  go : (o : Option Frame) → due_frame format s.cutoff s.holding.hold_back s.held ≡ o
      → length (stream_behind format s (due_frame format s.cutoff s.holding.hold_back s.held)).held < length s.held
  go None e = absurd (some (ap (answer_among format s.fragment s.held) e))
  go (Some f) e =
      let is : IsFrame format s.held f = due-is format s f e in
      rw e (omega (arith, is.not_empty, is.in_range, length-drop f.end s.held))

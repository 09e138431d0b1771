-- Runs that are cut in two.
use Rattle.std.proofs.Common.{◌≡◌, ℕ, refl, ap, List, [], ◌∷◌, ◌++◌}
use Rattle.std.specs.Prelude.{Option, Some, None, Ok}
use Rattle.payload_core_base.specs.Format.{Format}
use Rattle.payload_core_base.specs.declared.error.PacketError.{PacketError}
use Rattle.payload_core_base.specs.declared.extra.CodecExtra.{CodecExtra}
use Rattle.payload_core_buffer.specs.declared.frame.Frame.{Frame}
use Rattle.payload_core_buffer.specs.declared.held.RtpMeta.{RtpMeta}
use Rattle.payload_core_buffer.specs.Steps.{Answer, answer_among, answer_by}
use Rattle.rtp_media_schedules.specs.Hearing.{Event, Comes, Poll, Stream, after_events}
use Rattle.rtp_media_schedules.specs.Hearing.{due, heard, heard_step, number_at, poll_answer, polled}
use Rattle.rtp_media_schedules.specs.Hearing.{stream_behind, taken_by}

pub heard-append : (format : Format) (s : Stream) (before rest : List Event) → heard format s (before ++ rest)
    ≡ heard format s before ++ heard format (after_events format s before) rest
heard-append format s [] rest = refl
heard-append format s (Comes low content ∷ es) rest = heard-append format (taken_by s (number_at s low) content) es rest
heard-append format s (Poll ∷ es) rest =
    ap (λ (os : List Answer). poll_answer format s ∷ os) (heard-append format (polled format s) es rest)

pub after-append : (format : Format) (s : Stream) (before rest : List Event) → after_events format s (before ++ rest)
    ≡ after_events format (after_events format s before) rest
after-append format s [] rest = refl
after-append format s (e ∷ es) rest = after-append format (heard_step format s e) es rest

answers-something : (o : Option PacketError) (metas : List RtpMeta) (bytes : List ℕ) (extra : CodecExtra)
    → answer_by o metas bytes extra ≡ Ok None → ⊥
answers-something None metas bytes extra h = cc
answers-something (Some e) metas bytes extra h = cc

pub silent-stays : (format : Format) (s : Stream) → poll_answer format s ≡ Ok None → polled format s ≡ s
unfolding poll_answer polled
silent-stays format s none = go (due format s) none where
  go : (o : Option Frame) → answer_among format s.fragment s.held o ≡ Ok None → stream_behind format s o ≡ s
  go None none = refl
  go (Some f) none = absurd (answers-something _ _ _ _ none)

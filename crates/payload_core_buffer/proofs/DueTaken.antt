-- The frame that is due, taken out of a queue that was looked through for it.
use Rattle.std.proofs.Common.{◌≡◌, ℕ, ◌<◌, ◌≤◌, sym, ◌∙◌, ap, ap₂, subst, arith, List, length}
use Rattle.std.specs.Prelude.{Option, Some, Ok}
use Rattle.payload_core_base.specs.Format.{Format, Fragment}
use Rattle.payload_core_buffer.specs.Frames.{IsFrame, due_frame, packets_between}
use Rattle.payload_core_buffer.specs.Metas.{metas_of_unit}
use Rattle.payload_core_buffer.specs.Packets.{metas_of, packets_of}
use Rattle.payload_core_buffer.specs.Pops.{PopState, pop_state}
use Rattle.payload_core_buffer.specs.Steps.{Answer, AnswersBy, MediaUnit, TellsOf, frame_step, packets_of_due, pop_step}
use Rattle.payload_core_buffer.specs.Steps.{ready, run_among, unit_from, unit_of}
use Rattle.payload_core_buffer.specs.declared.depacketized.Depacketized.{Depacketized}
use Rattle.payload_core_buffer.specs.declared.frame.Frame.{Frame}
use Rattle.payload_core_buffer.specs.declared.held.Held.{Held}
use Rattle.payload_core_buffer.specs.declared.held.RtpMeta.{RtpMeta}
use Rattle.payload_core_buffer.proofs.DueLemmas.{due_frames}
use Rattle.payload_core_buffer.proofs.FrameLemmas.{length_packets}
use Rattle.payload_core_buffer.proofs.Stepping.{answered-unit, pops-due}

module _ (format : Format) (cutoff : Option ℕ) (fragment : Fragment) (hold_back : ℕ) (hs ks : List Held) (f : Frame)
    (same : ks ≡ hs) (due : Some f ≡ due_frame format cutoff hold_back (packets_of hs)) where
  abbrev state : List Held → PopState
  state xs = pop_state (packets_of xs) cutoff fragment

  pub is-frame : IsFrame format (packets_of ks) f
  is-frame = subst (λ (xs : List Held). IsFrame format (packets_of xs) f) (sym same)
      (due_frames cutoff hold_back (packets_of hs) format (Some f) due)

  pub some : f.start < f.end
  some = is-frame.not_empty

  pub within : f.end ≤ length ks
  within = omega (arith, is-frame.in_range, length_packets ks)

  pub popped : (new : PopState) (a : Option Answer) → AnswersBy (frame_step format (state ks) (Some f)) new a
      → AnswersBy (pop_step format hold_back (state hs)) new a
  popped new a is = pops-due format hold_back (state hs) new (Some f) a (sym due)
      (subst (λ (xs : List Held). AnswersBy (frame_step format (state xs) (Some f)) new a) same is)

  -- a unit with what is known of all its packets
  pub popped-metas : (new : PopState) (u : MediaUnit)
      → AnswersBy (frame_step format (state ks) (Some f)) new (Some (Ok (Some u)))
      → (d : Depacketized) → d.bytes.items ≡ u.bytes → d.extra ≡ u.extra
      → metas_of_unit d ≡ metas_of (packets_between (packets_of ks) f)
      → AnswersBy (pop_step format hold_back (state hs)) new (Some (Ok (Some (unit_of d))))
  popped-metas new u is d read told known =
      let metas = metas_of (packets_between (packets_of ks) f) in
      let run = run_among format fragment (packets_of ks) f in
      let same_unit : unit_of d ≡ u =
      ap (λ (ms : List RtpMeta). unit_from ms d.bytes.items d.extra) known
      ∙ ap₂ (unit_from metas) read told
      ∙ sym (answered-unit run.fault metas run.written run.extra u is.0) in
      popped new (Some (Ok (Some (unit_of d))))
      (subst (λ (x : MediaUnit). AnswersBy (frame_step format (state ks) (Some f)) new (Some (Ok (Some x))))
      (sym same_unit) is)

  pub tells : (d : Depacketized) → metas_of_unit d ≡ metas_of (packets_between (packets_of ks) f)
      → TellsOf (ready format hold_back (state hs)) (Some d)
  tells d known = known ∙ ap (λ (xs : List Held). metas_of (packets_between (packets_of xs) f)) same
      ∙ ap (λ (o : Option Frame). metas_of (packets_of_due (packets_of hs) o)) due

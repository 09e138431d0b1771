-- The taking of a frame and a pop by their steps.
use Rattle.std.proofs.Common.{◌≡◌, ◌≢◌, ℕ, ◌<◌, refl, sym, ◌∙◌, ap, ap₂, subst, arith, List, length}
use Rattle.std.proofs.Common.{drop}
use Rattle.std.proofs.lemmas.List.{length-drop, length-take}
use Rattle.std.specs.Prelude.{◌-◌, Option, Some, None, Result, Ok, Err, IfOk, IfNone}
use Rattle.payload_core_base.specs.Format.{Format, Fragment, Run}
use Rattle.payload_core_base.specs.declared.error.PacketError.{PacketError}
use Rattle.payload_core_base.specs.declared.error.PacketError.TheVariants as lacks
use Rattle.payload_core_base.specs.declared.extra.CodecExtra.{CodecExtra}
use Rattle.payload_core_buffer.specs.Buffered.{Buffered}
use Rattle.payload_core_buffer.specs.Frames.{IsFrame, due_frame, number_at, packets_between}
use Rattle.payload_core_buffer.specs.Packets.{Packet, metas_of}
use Rattle.payload_core_buffer.specs.Pops.{FaultsAs, IsReadAs, PopState, pop_state, run_of}
use Rattle.payload_core_buffer.specs.Steps.{Answer, AnswersBy, MediaUnit, PopsBy, answer_among, answer_by, as_answer}
use Rattle.payload_core_buffer.specs.Steps.{as_refusal, frame_step, kept_in, pop_step, unit_between, unit_from}
use Rattle.payload_core_buffer.specs.declared.frame.Frame.{Frame}
use Rattle.payload_core_buffer.specs.declared.held.RtpMeta.{RtpMeta}
use Rattle.payload_core_buffer.proofs.FrameEnds.{unit-of-frame}
use Rattle.payload_core_buffer.proofs.DueLemmas.{due_frames}

pub other : (e : PacketError) → e ≢ lacks.Memory → as_refusal e ≡ Some (Err e)
other lacks.Memory not = absurd (not refl)
other e not = refl

-- a frame is taken: it was read, it was refused, or memory ran out
module _ (format : Format) (old new : PopState) (f : Frame) where
  abbrev run : Run
  run = run_of format old.fragment (packets_between old.held f)

  module _ (gone : new.held ≡ drop f.end old.held) (moved : new.cutoff ≡ Some (number_at old.held (f.end - 1))) where
    behind : new.fragment ≡ run.fragment → new ≡ (frame_step format old (Some f)).next
    behind read =
        ap₂ (λ (held : List Packet) (cutoff : Option ℕ). pop_state held cutoff new.fragment) gone moved
        ∙ ap (pop_state (drop f.end old.held) (Some (number_at old.held (f.end - 1)))) read

    pub taken : (bytes : List ℕ) (extra : CodecExtra) → IsReadAs run bytes extra new.fragment
        → AnswersBy (frame_step format old (Some f)) new
        (Some (Ok (Some (unit_from (metas_of (packets_between old.held f)) bytes extra))))
    taken bytes extra read = (
      sym (ap (λ (o : Option PacketError). answer_by o (metas_of (packets_between old.held f)) run.written run.extra)
          read.no_fault
          ∙ ap₂ (λ (bs : List ℕ) (x : CodecExtra). let a : Answer =
          Ok (Some (unit_from (metas_of (packets_between old.held f)) bs x)) in a) (sym read.bytes) (sym read.extra)),
      behind read.fragment,
    )

    -- as the unit of its first and its last packet
    pub taken-as : (bytes : List ℕ) (extra : CodecExtra) (u : MediaUnit) → u ≡ unit_between old.held f bytes extra
        → IsFrame format old.held f → IsReadAs run bytes extra new.fragment
        → AnswersBy (frame_step format old (Some f)) new (Some (Ok (Some u)))
    taken-as bytes extra u e frame read =
        subst (λ (x : MediaUnit). AnswersBy (frame_step format old (Some f)) new (Some (Ok (Some x))))
        (unit-of-frame format old.held f bytes extra frame ∙ sym e) (taken bytes extra read)

    pub refused : (e : PacketError) → e ≢ lacks.Memory → FaultsAs run e new.fragment
        → AnswersBy (frame_step format old (Some f)) new (as_refusal e)
    refused e not fault = rw (other e not) (
      sym (ap (λ (o : Option PacketError). answer_by o (metas_of (packets_between old.held f)) run.written run.extra)
          fault.fault),
      behind fault.fragment,
    )

-- a unit that is answered is that of the packets' metadata
abbrev unit_in : MediaUnit → Answer → MediaUnit
unit_in u (Ok (Some v)) = v
unit_in u (Ok None) = u
unit_in u (Err e) = u

pub answered-unit : (o : Option PacketError) (metas : List RtpMeta) (bytes : List ℕ) (extra : CodecExtra)
    (u : MediaUnit) → Ok (Some u) ≡ answer_by o metas bytes extra → u ≡ unit_from metas u.bytes u.extra
answered-unit None metas bytes extra u e =
    let is : u ≡ unit_from metas bytes extra = ap (unit_in u) e in
    is ∙ sym (ap₂ (unit_from metas) (ap (λ (v : MediaUnit). v.bytes) is) (ap (λ (v : MediaUnit). v.extra) is))
answered-unit (Some err) metas bytes extra u e = cc

-- before a frame is read
pub unread : (format : Format) (s : PopState) (f : Frame) → IsFrame format s.held f
    → AnswersBy (frame_step format s (Some f)) s None
unread format s f is = (
  record {
    count = 0;
    stopped = omega (
      arith,
      length-take (f.end - f.start) (drop f.start s.held),
      length-drop f.start s.held,
      is.not_empty,
      is.in_range,
    );
    no_fault = refl;
    fragment = refl;
  },
  refl,
)

-- a pop takes the frame that is due, or none
pub pops-due : (format : Format) (hold_back : ℕ) (s t : PopState) (o : Option Frame) (a : Option Answer)
    → due_frame format s.cutoff hold_back s.held ≡ o → AnswersBy (frame_step format s o) t a
    → AnswersBy (pop_step format hold_back s) t a
pops-due format hold_back s t o a due is =
    subst (λ (d : Option Frame). AnswersBy (frame_step format s d) t a) (sym due) is

pub pops-none : (format : Format) (hold_back : ℕ) (s t : PopState)
    → due_frame format s.cutoff hold_back s.held ≡ None → t ≡ s
    → AnswersBy (pop_step format hold_back s) t (Some (Ok None))
pops-none format hold_back s t due same = pops-due format hold_back s t None (Some (Ok None)) due (refl, same)

-- after an answer fewer packets are held
something : (o : Option PacketError) (run : Run) (metas : List Packet)
    → answer_by o (metas_of metas) run.written run.extra ≢ Ok None
something None run metas h = cc
something (Some e) run metas h = cc

pub fewer : (format : Format) (hold_back : ℕ) (s t : PopState) (a : Answer)
    → AnswersBy (pop_step format hold_back s) t (Some a) → a ≢ Ok None → length t.held < length s.held
fewer format hold_back s t a is some = go (due_frame format s.cutoff hold_back s.held) refl where
  go : (o : Option Frame) → due_frame format s.cutoff hold_back s.held ≡ o → length t.held < length s.held
  go None e = absurd (some (is.0 ∙ ap (answer_among format s.fragment s.held) e))
  go (Some f) e =
      let frame : IsFrame format s.held f = due_frames s.cutoff hold_back s.held format (Some f) (sym e) in
      rw (is.1, e) (omega (arith, frame.not_empty, frame.in_range, length-drop f.end s.held))

-- what answers None is None
decide-none : (e : PacketError) → as_refusal e ≢ Some (Ok None)
decide-none lacks.Memory is = cc
decide-none e is = cc

pub as_none : {U : Type 0} (unit : U → MediaUnit) (result : Result (Option U) PacketError)
    → as_answer unit result ≡ Some (Ok None) → result ≡ Ok None
as_none unit (Ok None) is = refl
as_none unit (Ok (Some u)) is = cc
as_none unit (Err e) is = absurd (decide-none e is)

-- the contract of a buffer's pop, of what is known of its parts
pub pops-by : {D U : Type 0} (format : D → Format) (fragment : D → Fragment) (unit : U → MediaUnit) (n : ℕ)
    (old new : Buffered D) (result : Result (Option U) PacketError)
    → format new.depacketizer ≡ format old.depacketizer → new.holding ≡ old.holding
    → AnswersBy (pop_step (format old.depacketizer) n (kept_in fragment old)) (kept_in fragment new)
    (as_answer unit result)
    → IfOk result (λ r. IfNone r (new ≡ old)) → PopsBy format fragment n old new (as_answer unit result)
pops-by format fragment unit n old new result same held pops silent = record {
  same_format = same;
  same_holding = held;
  answers = pops;
  silent = λ is. rw (as_none unit result is) at silent;
}

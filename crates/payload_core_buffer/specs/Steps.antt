-- A pop as one step: its answer and the state after it, and the states possible if memory runs out.
use Rattle.std.specs.Prelude.{◌≡◌, ℕ, ◌-◌, List, [], Option, Some, None, Result, Ok, Err, drop, length}
use Rattle.payload_core_base.specs.Format.{Format, Fragment, Run}
use Rattle.payload_core_base.specs.declared.error.PacketError.{PacketError}
use Rattle.payload_core_base.specs.declared.error.PacketError.TheVariants as lacks
use Rattle.payload_core_base.specs.declared.extra.CodecExtra.{CodecExtra}
use Rattle.payload_core_buffer.specs.Buffered.{Buffered}
use Rattle.payload_core_buffer.specs.Frames.{due_frame, meta_at, number_at, packet_at, packets_between}
use Rattle.payload_core_buffer.specs.Metas.{metas_of_unit}
use Rattle.payload_core_buffer.specs.Packets.{Packet, metas_of}
use Rattle.payload_core_buffer.specs.Pops.{PopState, ReadsPart, no_extra, pop_state, run_of}
use Rattle.payload_core_buffer.specs.declared.depacketized.Depacketized.{Depacketized}
use Rattle.payload_core_buffer.specs.declared.frame.Frame.{Frame}
use Rattle.payload_core_buffer.specs.declared.held.Held.{Held}
use Rattle.payload_core_buffer.specs.declared.held.RtpMeta.{RtpMeta}
use Rattle.rtp_wire.specs.declared.values.ExtensionValues.{ExtensionValues}

-- What a poll hands out: the numbers of a frame's first and last packet, its timestamp, the header extension values of
-- the last packet, the bytes that its format reads from the payloads, and the codec data.
pub record MediaUnit : Type 0 where
  pub first : ℕ
  pub last : ℕ
  pub time : ℕ
  pub values : ExtensionValues
  pub bytes : List ℕ
  pub extra : CodecExtra

-- The unit of packets with this metadata that gave these bytes and this codec data.
abbrev pub unit_from : List RtpMeta → List ℕ → CodecExtra → MediaUnit
unit_from metas bytes extra = record {
  first = (meta_at metas 0).seq_no;
  last = (meta_at metas (length metas - 1)).seq_no;
  time = (meta_at metas 0).time;
  values = (meta_at metas (length metas - 1)).ext_vals;
  bytes = bytes;
  extra = extra;
}

-- A poll's answer: no unit is ready, or a unit, or why a packet of its frame is refused.
abbrev pub Answer : Type 0
Answer = Result (Option MediaUnit) PacketError

abbrev pub answer_by : Option PacketError → List RtpMeta → List ℕ → CodecExtra → Answer
answer_by None metas bytes extra = Ok (Some (unit_from metas bytes extra))
answer_by (Some e) metas bytes extra = Err e

-- The answer for packets with this metadata and this run.
abbrev pub answer_of : List RtpMeta → Run → Answer
answer_of metas run = answer_by run.fault metas run.written run.extra

-- What is read of the packets of a frame.
abbrev pub run_among : Format → Fragment → List Packet → Frame → Run
run_among format fragment held frame = run_of format fragment (packets_between held frame)

abbrev pub answer_among : Format → Fragment → List Packet → Option Frame → Answer
answer_among format fragment held None = Ok None
answer_among format fragment held (Some frame) =
    answer_of (metas_of (packets_between held frame)) (run_among format fragment held frame)

-- A poll in this state: its answer and the state after it, if memory lasts; and the states possible if it runs out.
pub record PollStep (S : Type 0) : Type 1 where
  pub answer : Answer
  pub next : S
  pub Stopped : S → Type 0

-- The answer (None if memory ran out) and the state after it are those of the step.
abbrev pub AnswersBy : {S : Type 0} → PollStep S → S → Option Answer → Type 0
AnswersBy step after None = step.Stopped after
AnswersBy step after (Some answer) = (answer ≡ step.answer) × (after ≡ step.next)

-- The packets of a frame; none if there is no frame.
abbrev pub packets_of_due : List Packet → Option Frame → List Packet
packets_of_due held None = []
packets_of_due held (Some frame) = packets_between held frame

-- The state after a frame: everything up to its end is gone, whether the frame was read or refused.
abbrev pub kept_behind : Format → PopState → Option Frame → PopState
kept_behind format s None = s
kept_behind format s (Some frame) = record {
  held = drop frame.end s.held;
  cutoff = Some (number_at s.held (frame.end - 1));
  fragment = (run_among format s.fragment s.held frame).fragment;
}

-- What happens to the frame that is due, if any. Memory can only run out before all its packets are read; then the held
-- packets and the cutoff don't change.
abbrev pub frame_step : Format → PopState → Option Frame → PollStep PopState
frame_step format s due = record {
  answer = answer_among format s.fragment s.held due;
  next = kept_behind format s due;
  Stopped = λ t. ReadsPart format s.fragment (packets_of_due s.held due) t.fragment
      × (t ≡ record s { fragment = t.fragment });
}

-- A pop with this hold-back.
abbrev pub pop_step : Format → ℕ → PopState → PollStep PopState
pop_step format hold_back s = frame_step format s (due_frame format s.cutoff hold_back s.held)

-- The packets that a pop reads.
abbrev pub ready : Format → ℕ → PopState → List Packet
ready format hold_back s = packets_of_due s.held (due_frame format s.cutoff hold_back s.held)

-- The part of a buffer that a pop reads and changes.
abbrev pub kept_in : {D : Type 0} → (D → Fragment) → Buffered D → PopState
kept_in fragment b = pop_state b.held b.cutoff (fragment b.depacketizer)

-- A buffer's pop, by its answer (None: memory ran out): its format and limits don't change; and if the answer is that
-- no unit is ready, nothing does.
pub record PopsBy {D : Type 0} (format : D → Format) (fragment : D → Fragment) (hold_back : ℕ)
    (old new : Buffered D) (answer : Option Answer) : Type 0
  where
    pub same_format : format new.depacketizer ≡ format old.depacketizer
    pub same_holding : new.holding ≡ old.holding
    pub answers : AnswersBy (pop_step (format old.depacketizer) hold_back (kept_in fragment old))
        (kept_in fragment new) answer
    pub silent : answer ≡ Some (Ok None) → new ≡ old

-- The unit that a frame's bytes, extra and packets are.
abbrev pub unit_of : Depacketized → MediaUnit
unit_of d = unit_from (metas_of_unit d) d.bytes.items d.extra

-- The unit of a frame: its numbers, timestamp and values come from its first and last packet.
abbrev pub unit_between : List Packet → Frame → List ℕ → CodecExtra → MediaUnit
unit_between ps f bytes extra = record {
  first = (packet_at ps f.start).meta.seq_no;
  last = (packet_at ps (f.end - 1)).meta.seq_no;
  time = (packet_at ps f.start).meta.time;
  values = (packet_at ps (f.end - 1)).meta.ext_vals;
  bytes = bytes;
  extra = extra;
}

-- The unit of a packet that is one as it is.
abbrev pub sole_unit : Held → MediaUnit
sole_unit h = record {
  first = h.meta.seq_no;
  last = h.meta.seq_no;
  time = h.meta.time;
  values = h.meta.ext_vals;
  bytes = h.payload;
  extra = no_extra;
}

-- A refusal as an answer, unless memory ran out.
abbrev pub as_refusal : PacketError → Option Answer
as_refusal lacks.Memory = None
as_refusal e = Some (Err e)

-- What the taking of a frame answers, unless memory ran out.
abbrev pub as_taken : {U : Type 0} → (U → MediaUnit) → Result U PacketError → Option Answer
as_taken unit (Ok u) = Some (Ok (Some (unit u)))
as_taken unit (Err e) = as_refusal e

-- What a pop answers, unless memory ran out.
abbrev pub as_answer : {U : Type 0} → (U → MediaUnit) → Result (Option U) PacketError → Option Answer
as_answer unit (Ok None) = Some (Ok None)
as_answer unit (Ok (Some u)) = Some (Ok (Some (unit u)))
as_answer unit (Err e) = as_refusal e

-- The popped unit's metadata is that of these packets.
abbrev pub TellsOf : List Packet → Option Depacketized → Type 0
TellsOf packets None = Unit {0}
TellsOf packets (Some d) = metas_of_unit d ≡ metas_of packets

-- What a benchmark counts when it runs packets through a jitter buffer.
use Rattle.std.specs.Prelude.{◌≡◌, ◌⊎◌, ℕ, zero, suc, ◌+◌, ◌-◌, ◌*◌, ◌^◌, ◌==◌, min, [], Option, Some, None}
use Rattle.std.specs.Prelude.{Result, Ok, Err, length, map, slice_index_or}
use Rattle.benchmarks.specs.Tallies.{tally_with}
use Rattle.benchmarks.specs.declared.tally.Tally.{Tally}
use Rattle.payload_core.specs.Buffered.{Buffered, pushed}
use Rattle.payload_core.specs.Format.{Format, Fragment}
use Rattle.payload_core.specs.Packets.{Packet, packet_from}
use Rattle.payload_core.specs.Pops.{PopState, pop_state}
use Rattle.payload_core.specs.Steps.{AnswersBy, as_answer, pop_step, unit_of}
use Rattle.payload_core.specs.declared.Depacketized.{Depacketized}
use Rattle.payload_core.specs.declared.PacketError.{PacketError}
use Rattle.rtp_wire.specs.Values.{absent}
use Rattle.benchmarks.specs.declared.buffers.Buffering.{Buffering}

-- The packet number after n steps, capped at 2^64 - 1.
abbrev pub number_after : {D : Type 0} → Buffering D → ℕ → ℕ
number_after b n = min (b.number + b.step * n) (2 ^ 64 - 1)

-- Packet n of the sample as it is pushed: all its packets share one timestamp, and the last has the marker bit.
abbrev pub packet_at : {D : Type 0} → Buffering D → ℕ → ℕ → Packet
packet_at b time n = packet_from (record {
  seq_no = number_after b n;
  time = time;
  marker = n + 1 == length b.packets.now;
  ext_vals = absent;
}) (slice_index_or (map (λ p. p.items) b.packets.now) n [])

-- The first n packets are pushed in order; a packet is skipped if memory runs out.
abbrev pub PushesFirst : {D : Type 0} → Buffering D → ℕ → ℕ → Buffered D → Buffered D → Type 0
PushesFirst b time zero old new = new ≡ old
PushesFirst {D} b time (suc n) old new = (mid : Buffered D) × PushesFirst b time n old mid
    × ((new ≡ record mid { held = pushed mid.holding.held mid.cutoff mid.held (packet_at b time n) }) ⊎ (new ≡ mid))

-- The part of a buffer that a pop reads and changes.
abbrev pub state_of : {D : Type 0} → (D → Fragment) → Buffered D → PopState
state_of fragment b = pop_state b.held b.cutoff (fragment b.depacketizer)

-- A unit that is handed out is counted, with its bytes.
abbrev pub CountsUnit : Result (Option Depacketized) PacketError → Tally → Tally → Type 0
CountsUnit (Ok (Some unit)) before after = after ≡ tally_with before 1 (length unit.bytes.items)
CountsUnit (Ok None) before after = after ≡ before
CountsUnit (Err e) before after = after ≡ before

-- The packets are pushed, and the result of the pop that follows is counted.
pub record CountsPopped {D : Type 0} (format : D → Format) (fragment : D → Fragment) (old : Buffering D) (time : ℕ)
    (before : Tally) (new : Buffering D) (after : Tally) : Type 0 where
  pub full : Buffered D
  pub pushes : PushesFirst old time (length old.packets.now) old.buffer full
  pub answer : Result (Option Depacketized) PacketError
  pub pops : AnswersBy (pop_step (format full.depacketizer) full.holding.hold_back (state_of fragment full))
      (state_of fragment new.buffer) (as_answer unit_of answer)
  pub counted : CountsUnit answer before after
  pub number : new.number ≡ number_after old (length old.packets.now)
  pub format_stays : format new.buffer.depacketizer ≡ format old.buffer.depacketizer
  pub holding_stays : new.buffer.holding ≡ old.buffer.holding
  pub step_stays : new.step ≡ old.step
  pub packets_stay : new.packets ≡ old.packets

-- Two datagrams that come in order, and three polls.
use Rattle.std.proofs.Common.{◌≡◌, ℕ, zero, suc, ◌+◌, ◌-◌, ◌≤◌, refl, arith}
use Rattle.std.proofs.Common.{inr, Bool, true, false, List, [], ◌∷◌, length}
use Rattle.std.proofs.lemmas.List.{length-drop}
use Rattle.std.specs.Prelude.{Some, if◌then◌else◌}
use Rattle.std.specs.Ordering.{match_ordering, nat_cmp}
use Rattle.std.specs.declared.cmp.Ordering.{Ordering}
use Rattle.std.specs.declared.cmp.Ordering.TheVariants.{Equal, Greater, Less}
use Rattle.payload_core_base.specs.Format.{Format}
use Rattle.payload_core_buffer.specs.Buffered.{Holding, held_with, is_done, limited}
use Rattle.payload_core_buffer.specs.Packets.{Packet}
use Rattle.rtp_wire.specs.Replay.{is_accepted, recorded_in}
use Rattle.rtp_media_schedules.specs.Hearing as hearing
use Rattle.rtp_media_schedules.specs.Hearing.{Content, EndsSilent, Stream, fresh, heard, number_at}
use Rattle.rtp_media_schedules.specs.Hearing.{packet_of}
use Rattle.rtp_media_schedules.specs.Hearing.{taken_by}
use Rattle.rtp_media_schedules.specs.Orders.{IsGoodPoll, IsTame}
use Rattle.rtp_media_schedules.specs.Turns as turns
use Rattle.rtp_media_schedules.specs.Turns.{AllCame, Ask, Turn}
use Rattle.rtp_media_schedules.proofs.Polls.{polls-end}

-- orders of two datagrams
both-came : AllCame 0 2 (1 ∷ 0 ∷ [])
both-came zero low high = refl
both-came (suc zero) low high = refl
both-came (suc (suc y)) low high = absurd (omega arith)

good-poll : (hold_back : ℕ) → IsGoodPoll 0 2 hold_back (1 ∷ 0 ∷ []) 1
good-poll hold_back = record { begun = refl; held_back = inr both-came }

at-least-one : (n : ℕ) → 2 ≤ n → 1 ≤ n
at-least-one n two = omega (arith, two)

abbrev pub two_turns : List Turn
two_turns = turns.Arrive 0 ∷ turns.Arrive 1 ∷ Ask ∷ Ask ∷ Ask ∷ []

pub tame-two : (holding : Holding) → 2 ≤ holding.held → IsTame 0 2 holding 1 [] 0 (1 ∷ 1 ∷ []) two_turns
tame-two holding room = (
  record {
    from_first = omega arith;
    before_end = omega arith;
    near = omega arith;
    in_reach = λ y low far. absurd (omega arith);
  },
  at-least-one holding.held room,
  (
    record {
      from_first = omega arith;
      before_end = omega arith;
      near = (omega arith, omega arith);
      in_reach = λ y low far. absurd (omega arith);
    },
    room,
    (
      good-poll holding.hold_back,
      (good-poll holding.hold_back, (good-poll holding.hold_back, both-came)),
    ),
  ),
)

-- no more is held than came
held-more : (p : Packet) (ps : List Packet) → length (held_with p ps) ≤ length ps + 1
held-more p [] = omega arith
held-more p (q ∷ qs) = by (nat_cmp p.meta.seq_no q.meta.seq_no) (held-more p qs) where
  by : (o : Ordering) → length (held_with p qs) ≤ length qs + 1
      → length (match_ordering o (p ∷ q ∷ qs) (q ∷ qs) (q ∷ held_with p qs)) ≤ length (q ∷ qs) + 1
  by Less ih = omega arith
  by Equal ih = omega arith
  by Greater ih = omega (arith, ih)

taken-more : (t : Stream) (n : ℕ) (c : Content) → length (taken_by t n c).held ≤ length t.held + 1
taken-more t n c = by (is_accepted t.window n) (is_done t.cutoff n) where
  inside : (b : Bool) → length (if b then t.held
      else limited t.holding.held (held_with (packet_of n c) t.held)) ≤ length t.held + 1
  inside true = omega arith
  inside false =
      let more : length (held_with (packet_of n c) t.held) ≤ length t.held + 1 = held-more (packet_of n c) t.held in
      let most : ℕ = length (held_with (packet_of n c) t.held) - t.holding.held in
      omega (arith, more, length-drop most (held_with (packet_of n c) t.held))

  by : (b d : Bool) → length (if b then record {
    holding = t.holding;
    window = Some (recorded_in t.window n);
    held = (if d then t.held else limited t.holding.held (held_with (packet_of n c) t.held));
    cutoff = t.cutoff;
    fragment = t.fragment;
  } else t).held ≤ length t.held + 1
  by true d = inside d
  by false d = omega arith

-- two arrivals and three polls end by None
pub ends-silent : (format : Format) (holding : Holding) (a b : ℕ) (c d : Content)
    → EndsSilent (heard format (fresh holding)
    (hearing.Comes a c ∷ hearing.Comes b d ∷ hearing.Poll ∷ hearing.Poll ∷ hearing.Poll ∷ []))
ends-silent format holding a b c d =
    let t : Stream = taken_by (fresh holding) (number_at (fresh holding) a) c in
    let u : Stream = taken_by t (number_at t b) d in
    let none : length (fresh holding).held ≡ 0 = refl in
    polls-end format 2 u
    (omega (arith, none, taken-more (fresh holding) (number_at (fresh holding) a) c, taken-more t (number_at t b) d))

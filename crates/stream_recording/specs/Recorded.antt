-- What is recorded of a stream: what its frames become, in their order.
use Rattle.std.specs.Prelude.{◌≡◌, ◌⊎◌, ◌||◌, ℕ, Bool, true, false, List, [], ◌∷◌, ◌++◌, Some, None, Result, Ok, Err}
use Rattle.std.specs.Prelude.{is_some, length, nat_le, nat_lt}
use Rattle.payload_core_base.specs.Format.{Format, Fragment}
use Rattle.payload_core_base.specs.declared.error.PacketError.{PacketError}
use Rattle.payload_core_buffer.specs.Buffered.{Buffered, pushed}
use Rattle.payload_core_buffer.specs.Frames.{complete_frames}
use Rattle.payload_core_buffer.specs.Packets.{Packet}
use Rattle.payload_core_buffer.specs.Pops.{PopState, pop_state}
use Rattle.payload_core_buffer.specs.Steps.{AnswersBy, MediaUnit, PollStep, kept_in, pop_step}

-- What a frame becomes: its unit, or why it can't be read.
abbrev pub Outcome : Type 0
Outcome = Result MediaUnit PacketError

-- No frame is due, and nothing changes.
abbrev pub NoneDue : PollStep PopState → PopState → PopState → Type 0
NoneDue step s t = AnswersBy step t (Some (Ok None))

-- Memory ran out before the next frame, or as it was read.
abbrev pub IsShort : PollStep PopState → PopState → PopState → Type 0
IsShort step s t = (t ≡ s) ⊎ AnswersBy step t None

-- The frames that are due, one after another, and what each became, up to an end.
pub data Takes (format : Format) (hold_back : ℕ) (Ends : PollStep PopState → PopState → PopState → Type 0)
    : PopState → List Outcome → PopState → Type 0
  where
    AtEnd : {s t : PopState} (ends : Ends (pop_step format hold_back s) s t) → Takes format hold_back Ends s [] t
    HandsOut : {s m t : PopState} {u : MediaUnit} {os : List Outcome}
        (one : AnswersBy (pop_step format hold_back s) m (Some (Ok (Some u))))
        (rest : Takes format hold_back Ends m os t) → Takes format hold_back Ends s (Ok u ∷ os) t
    Faults : {s m t : PopState} {e : PacketError} {os : List Outcome}
        (one : AnswersBy (pop_step format hold_back s) m (Some (Err e)))
        (rest : Takes format hold_back Ends m os t) → Takes format hold_back Ends s (Err e ∷ os) t

-- What the frames that are due become follows what was there.
pub record Appends (format : Format) (hold_back : ℕ) (Ends : PollStep PopState → PopState → PopState → Type 0)
    (old new : PopState) (before after : List Outcome) : Type 0
  where
    pub taken : List Outcome
    pub appended : after ≡ before ++ taken
    pub takes : Takes format hold_back Ends old taken new

-- How long a recording waits: before its first frame until more than `first` frames are complete, later for a gap until
-- more than `hold_back` are; with at most so many packets.
pub record Waiting : Type 0 where
  pub first : ℕ
  pub hold_back : ℕ
  pub most : ℕ

-- Whether a recording has begun: a frame was handed out, enough frames are complete, or no more packets may wait. Before
-- that a packet that comes late may still be one of the first frame.
abbrev pub has_begun : Format → Waiting → PopState → Bool
has_begun format waiting s = is_some s.cutoff
    || (nat_lt waiting.first (length (complete_frames format s.held)) || nat_le waiting.most (length s.held))

-- That of a buffer.
abbrev pub waiting_of : {D : Type 0} → ℕ → Buffered D → Waiting
waiting_of first b = record { first = first; hold_back = b.holding.hold_back; most = b.holding.held }

-- The frames that are due once a recording has begun; before that none is taken.
abbrev pub TakesFrom : Bool → Format → ℕ → PopState → List Outcome → PopState → Type 0
TakesFrom false format hold_back s os t = (os ≡ []) × (t ≡ s)
TakesFrom true format hold_back s os t = Takes format hold_back NoneDue s os t

abbrev pub TakesDue : Format → Waiting → PopState → List Outcome → PopState → Type 0
TakesDue format waiting s os t = TakesFrom (has_begun format waiting s) format waiting.hold_back s os t

-- What they become follows what was there.
pub record AppendsDue (format : Format) (waiting : Waiting) (old new : PopState) (before after : List Outcome) : Type 0
  where
    pub taken : List Outcome
    pub appended : after ≡ before ++ taken
    pub takes : TakesDue format waiting old taken new

-- The state of a buffer that holds one packet more.
abbrev pub pushed_in : {D : Type 0} → (D → Fragment) → Buffered D → Packet → PopState
pushed_in fragment b p = pop_state (pushed b.holding.held b.cutoff b.held p) b.cutoff (fragment b.depacketizer)

-- Memory ran out before the packet was held, and nothing changed; or after it, among the frames that were due.
abbrev pub IsPartRecorded : {D : Type 0} → Format → ℕ → (D → Fragment) → Buffered D → Buffered D → Packet
    → List Outcome → List Outcome → Type 0
IsPartRecorded format first fragment old new p before after = ((new ≡ old) × (after ≡ before))
    ⊎ ((has_begun format (waiting_of first old) (pushed_in fragment old p) ≡ true)
    × Appends format old.holding.hold_back IsShort (pushed_in fragment old p) (kept_in fragment new) before after)

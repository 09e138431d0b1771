-- Runs in which each poll has its own hold-back: a poll that of its stream, a drain none.
use Rattle.std.specs.Prelude.{ℕ, ◌%◌, List, [], ◌∷◌}
use Rattle.payload_core_base.specs.Format.{Format}
use Rattle.payload_core_buffer.specs.Buffered.{holding_of}
use Rattle.payload_core_buffer.specs.Steps.{Answer}
use Rattle.rtp_media_schedules.specs.Hearing.{Stream, number_at, poll_answer, polled, taken_by}
use Rattle.rtp_media_schedules.specs.Turns as turns
use Rattle.rtp_media_schedules.specs.Turns.{Sender, Turn}

-- An arrival of the datagram with this true number, or a poll with this hold-back.
pub data HeldTurn : Type 0 where
  Arrive : (number : ℕ) → HeldTurn
  AskAt : (hold_back : ℕ) → HeldTurn

-- The turn, without its hold-back.
abbrev pub turn_of : HeldTurn → Turn
turn_of (Arrive x) = turns.Arrive x
turn_of (AskAt k) = turns.Ask

-- The turn at a stream with this hold-back.
abbrev pub turn_at : ℕ → Turn → HeldTurn
turn_at k (turns.Arrive x) = Arrive x
turn_at k turns.Ask = AskAt k

-- The stream with this hold-back.
abbrev pub holding_back : ℕ → Stream → Stream
holding_back k s = record s { holding = holding_of k s.holding.held }

-- The answers to the polls.
abbrev pub heard_at : Format → Sender → Stream → List HeldTurn → List Answer
heard_at format sender s [] = []
heard_at format sender s (Arrive x ∷ ts) = heard_at format sender (taken_by s (number_at s (x % 65536)) (sender x)) ts
heard_at format sender s (AskAt k ∷ ts) =
    poll_answer format (holding_back k s)
    ∷ heard_at format sender (holding_back s.holding.hold_back (polled format (holding_back k s))) ts

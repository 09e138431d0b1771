-- The numbers that a stream takes.
use Rattle.std.specs.Prelude.{ℕ, List, [], ◌∷◌, if◌then◌else◌}
use Rattle.payload_core_base.specs.Format.{Format}
use Rattle.rtp_wire.specs.Replay.{is_accepted}
use Rattle.rtp_media_schedules.specs.Hearing.{Comes, Event, Poll, Stream, number_at, polled, taken_by}

-- The numbers of the datagrams that the window accepts, in the order in which they come.
abbrev pub taken : Format → Stream → List Event → List ℕ
taken format s [] = []
taken format s (Comes low content ∷ es) =
    if is_accepted s.window (number_at s low)
    then number_at s low ∷ taken format (taken_by s (number_at s low) content) es
    else taken format (taken_by s (number_at s low) content) es
taken format s (Poll ∷ es) = taken format (polled format s) es

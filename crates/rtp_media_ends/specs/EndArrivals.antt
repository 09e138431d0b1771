use Rattle.std.specs.Prelude.{ℕ, List}
use Rattle.rtp_media_ends.specs.Ends.{EndState, with_streams}
use Rattle.rtp_media_stream_table.specs.declared.received.Received.{Received}
use Rattle.rtp_media_stream_table.specs.Arrivals.{Arrival, arrival_at, streams_after, verdict_in}

-- The end after it.
abbrev pub after_arrival : EndState → Arrival → EndState
after_arrival e arrival = with_streams e (streams_after e.streams arrival)

abbrev pub verdict_of : EndState → List ℕ → Received
verdict_of e datagram = verdict_in e.streams (arrival_at e.streams datagram)

abbrev pub after_datagram : EndState → List ℕ → EndState
after_datagram e datagram = after_arrival e (arrival_at e.streams datagram)

-- The numbers that a receiving stream misses.
use Rattle.std.specs.Prelude.{ℕ, ◌-◌, ◌&&◌, nat_lt, min, if◌then◌else◌, List, [], ◌∷◌, Option, Some, None, filter}
use Rattle.std.specs.List.{range_with_len}
use Rattle.payload_core_buffer.specs.Buffered.{lowest_number}
use Rattle.rtp_wire.specs.Replay.{Window, accepts, reach_below}
use Rattle.rtp_media_schedules.specs.Hearing.{Stream}

-- The numbers below the window's greatest that are within its reach.
abbrev pub in_reach : Window → List ℕ
in_reach w = range_with_len (w.greatest - reach_below) (w.greatest - (w.greatest - reach_below))

-- The first of these numbers that was taken; if none was, the greatest.
abbrev pub first_taken : Window → List ℕ → ℕ
first_taken w [] = w.greatest
first_taken w (y ∷ ys) = if accepts w y then first_taken w ys else y

-- The lowest number that was taken, of those in reach.
abbrev pub lowest_taken : Window → ℕ
lowest_taken w = first_taken w (in_reach w)

-- Where a stream begins before any unit: at the lowest number that is held or was taken.
abbrev pub begin_of : Option ℕ → ℕ → ℕ
begin_of None taken = taken
begin_of (Some held) taken = min held taken

-- The number after which a stream waits for what hasn't come: the cutoff or, before any unit, where the stream begins.
abbrev pub waits_after : Option ℕ → ℕ → ℕ
waits_after (Some cutoff) begin = cutoff
waits_after None begin = begin

abbrev pub missing_in : Option ℕ → Option ℕ → Option Window → List ℕ
missing_in cutoff lowest None = []
missing_in cutoff lowest (Some w) =
    filter (λ y. nat_lt (waits_after cutoff (begin_of lowest (lowest_taken w))) y && accepts w y) (in_reach w)

-- The missing numbers, in increasing order: those a generic NACK may ask for (RFC 4585 6.2.1).
abbrev pub missing : Stream → List ℕ
missing s = missing_in s.cutoff (lowest_number s.held) s.window

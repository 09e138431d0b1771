-- The numbers that a stream takes of datagrams that are sent on.
use Rattle.std.specs.Prelude.{ℕ, ◌%◌, if◌then◌else◌, List, [], ◌∷◌, ◌++◌, map, Option, Some, None}
use Rattle.rtp_wire.specs.Replay.{Window, is_accepted, recorded_in}
use Rattle.rtp_media_schedules.specs.Hearing.{Stream}
use Rattle.rtp_media_streams.specs.Receiving.{number_taken, taken_number}

abbrev pub as_list : Option ℕ → List ℕ
as_list None = []
as_list (Some x) = x ∷ []

-- Those that it takes, where datagrams of these low bits come one after the other.
abbrev pub numbers_taken : Stream → List ℕ → List ℕ
numbers_taken s [] = []
numbers_taken s (low ∷ lows) = as_list (taken_number s low) ++ numbers_taken (number_taken s low) lows

-- Those of these numbers that are new to a window, one after the other.
abbrev pub new_among : Option Window → List ℕ → List ℕ
new_among w [] = []
new_among w (x ∷ xs) = if is_accepted w x then x ∷ new_among (Some (recorded_in w x)) xs else new_among w xs

abbrev pub lows_of : List ℕ → List ℕ
lows_of xs = map (λ x. x % 65536) xs

use Rattle.std.specs.Prelude.{ℕ, if◌then◌else◌, List, [], ◌∷◌, Option, Some, None}
use Rattle.rtp_wire.specs.Values.{Numbering}
use Rattle.rtp_wire.specs.declared.header.RtpHeader.{RtpHeader}
use Rattle.rtp_wire.specs.declared.run.Reception.{Reception}
use Rattle.rtp_wire.specs.declared.run.Reception.TheVariants.{Unreadable, Refused, Taken}
use Rattle.rtp_wire.specs.Header.{header_in}
use Rattle.rtp_wire.specs.Replay.{Window, is_accepted, recorded_in, greatest_in}
use Rattle.rtp_wire.specs.Widening.{widened}

-- The number that a header's 16-bit sequence number stands for at a window.
abbrev pub number_at : Option Window → RtpHeader → ℕ
number_at window header = widened (greatest_in window) header.sequence_number

-- The verdict on a datagram, by its header.
abbrev pub reception_of : Option Window → Option RtpHeader → Reception
reception_of window None = Unreadable
reception_of window (Some header) =
    if is_accepted window (number_at window header) then Taken (number_at window header) else Refused

-- The window after it.
abbrev pub window_behind : Option Window → Option RtpHeader → Option Window
window_behind window None = window
window_behind window (Some header) =
    if is_accepted window (number_at window header) then Some (recorded_in window (number_at window header)) else window

-- The verdicts on datagrams in order, at one window.
abbrev pub receptions : Numbering → Option Window → List (List ℕ) → List Reception
receptions map window [] = []
receptions map window (d ∷ ds) = reception_of window (header_in map d)
    ∷ receptions map (window_behind window (header_in map d)) ds

use Rattle.std.specs.Prelude.{ℕ, ◌≡◌, List, None}
use Rattle.rtp_wire.specs.declared.run.Reception.{Reception}
use Rattle.rtp_wire.specs.declared.run.Reception.TheVariants.{Unreadable, Refused, Taken}
use Rattle.jilqamur.specs.Codes.{ok, unreadable, refused}
use Rattle.rtp_wire.specs.Header.{header_in}
use Rattle.rtp_wire.specs.Run.{window_behind}
use Rattle.rtp_wire.specs.Maps.{empty_map}
use Rattle.jilqamur.specs.declared.replay.Replay.{Replay}

-- A window before its first number.
abbrev pub fresh : Replay
fresh = record { window = None }

-- The window after a datagram.
abbrev pub behind : List ℕ → Replay → Replay
behind datagram r = record { window = window_behind r.window (header_in empty_map datagram) }

-- The result for a datagram, and the number written if it was taken.
abbrev pub ReceivedAs : Reception → ℕ → ℕ → ℕ → Type 0
ReceivedAs Unreadable result old new = (result ≡ unreadable) × (new ≡ old)
ReceivedAs Refused result old new = (result ≡ refused) × (new ≡ old)
ReceivedAs (Taken number) result old new = (result ≡ ok) × (new ≡ number)

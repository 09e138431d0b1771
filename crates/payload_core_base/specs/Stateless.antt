-- What payload formats without state between samples share.
use Rattle.std.specs.Prelude.{ℕ, Bool, false, List, [], ◌∷◌, Result, Ok}
use Rattle.payload_core_base.specs.Packing.{Sender, Sent}
use Rattle.payload_core_base.specs.declared.error.PacketError.{PacketError}

-- The state of a packetizer that keeps nothing between samples.
abbrev pub idle_sender : Sender
idle_sender = record { number = 0; waiting = [] }

-- The sample is sent as these packets, and nothing is kept.
abbrev pub sent_as : Sender → List (List ℕ) → Result Sent PacketError
sent_as sender packets = Ok (record { packets = packets; sender = sender })

-- Any state can be reached.
abbrev pub AnySender : Sender → Type 0
AnySender sender = Unit {0}

-- Nothing is kept between samples.
abbrev pub stays_idle : Sender → ℕ → List ℕ → Sender
stays_idle sender limit sample = sender

-- No packet has the marker bit.
abbrev pub no_marker : List ℕ → Bool → Bool
no_marker packet last = false

-- A piece is a unit of one part.
abbrev pub unit_of_piece : List ℕ → List (List ℕ)
unit_of_piece piece = piece ∷ []

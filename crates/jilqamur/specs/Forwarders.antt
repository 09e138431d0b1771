-- What a forwarder answers.
use Rattle.std.specs.Prelude.{ℕ, ◌≡◌, Bool, true, false, Option, Some, None}
use Rattle.rtp_media_forward.specs.declared.forwarder.Placed.{Placed}
use Rattle.jilqamur.specs.Codes.{ok, nothing}
use Rattle.jilqamur.specs.declared.forwarders.WirePlaced.{WirePlaced}

abbrev pub wire_placed : Placed → WirePlaced
wire_placed p = record { number = p.number; time = p.time }

-- The number and timestamp under which a packet is sent on, if it is.
abbrev pub TellsPlaced : Option Placed → WirePlaced → ℕ → WirePlaced → Type 0
TellsPlaced None before result told = (result ≡ nothing) × (told ≡ before)
TellsPlaced (Some p) before result told = (result ≡ ok) × (told ≡ wire_placed p)

-- Whether a packet that carries nothing was the next one.
abbrev pub code_of_next : Bool → ℕ
code_of_next true = ok
code_of_next false = nothing

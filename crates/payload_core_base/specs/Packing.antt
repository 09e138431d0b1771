-- What samples give a sender.
use Rattle.std.specs.Prelude.{◌≡◌, ◌≢◌, ℕ, Bool, true, false, List, [], ◌∷◌, ◌++◌, map, Option, Result, Ok, Err}
use Rattle.payload_core_base.specs.declared.error.PacketError.{PacketError}
use Rattle.payload_core_base.specs.declared.error.PacketError.TheVariants.{Memory}

-- A packetizer's state between samples: a counter (the next picture id, or a count of units), and a slot for each kind
-- of unit that may be held back for the next sample.
pub record Sender : Type 0 where
  pub number : ℕ
  pub waiting : List (Option (List ℕ))

-- What an accepted sample gives: its packets, and what the packetizer has after it.
pub record Sent : Type 0 where
  pub packets : List (List ℕ)
  pub sender : Sender

-- A payload format as a sender sees it: the packets of a sample at a limit, or why it is refused; and the marker bit of
-- a packet, given whether it is the sample's last.
pub record Packing : Type 0 where
  pub pack : Sender → ℕ → List ℕ → Result Sent PacketError
  pub marks : List ℕ → Bool → Bool

-- The sample gives these packets, and leaves the packetizer with this.
abbrev pub Sends : Result Sent PacketError → List (List ℕ) → Sender → Type 0
Sends (Ok sent) packets sender = (packets ≡ sent.packets) × (sender ≡ sent.sender)
Sends (Err e) packets sender = ⊥

-- These bytes in front of each packet.
abbrev pub with_prefix : List ℕ → List (List ℕ) → List (List ℕ)
with_prefix prefix packets = map (λ p. prefix ++ p) packets

-- The sample gives its packets with these bytes in front of each, and leaves the packetizer with this.
abbrev pub SendsWith : List ℕ → Result Sent PacketError → List (List ℕ) → Sender → Type 0
SendsWith prefix (Ok sent) packets sender = (packets ≡ with_prefix prefix sent.packets) × (sender ≡ sent.sender)
SendsWith prefix (Err e) packets sender = ⊥

-- The sample is refused with this error, or memory runs out.
abbrev pub RefusesSample : Result Sent PacketError → PacketError → Type 0
RefusesSample r e = e ≢ Memory → r ≡ Err e

-- A packet with its marker.
pub record MarkedPacket : Type 0 where
  pub payload : List ℕ
  pub marker : Bool

-- No packet is left.
abbrev pub is_none_left : List (List ℕ) → Bool
is_none_left [] = true
is_none_left (p ∷ ps) = false

-- The packets of a sample with their markers.
abbrev pub marked : Packing → List (List ℕ) → List MarkedPacket
marked packing [] = []
marked packing (p ∷ ps) = record { payload = p; marker = packing.marks p (is_none_left ps) } ∷ marked packing ps

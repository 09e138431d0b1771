-- What a packet sink is given.
use Rattle.std.specs.Prelude.{◌≡◌, ℕ, ◌≤◌, Bool, List, [], ◌∷◌, length, map, take}
use Rattle.payload_core_base.specs.Packing.{MarkedPacket}
use Rattle.rtp_wire.specs.declared.values.ExtensionValues.{ExtensionValues}

-- A payload with its marker bit, timestamp and header extension values.
pub record Outgoing : Type 0 where
  pub payload : List ℕ
  pub marker : Bool
  pub time : ℕ
  pub values : ExtensionValues

abbrev pub outgoing : List ℕ → Bool → ℕ → ExtensionValues → Outgoing
outgoing payload marker time values = record { payload = payload; marker = marker; time = time; values = values }

-- Packets with their marker bits, all with the same timestamp and header extension values.
abbrev pub all_outgoing : List MarkedPacket → ℕ → ExtensionValues → List Outgoing
all_outgoing packets time values = map (λ p. outgoing p.payload p.marker time values) packets

-- The sink took these in order.
abbrev pub TakesAll : {S : Type 0} → (S → Outgoing → S → Type 0) → S → List Outgoing → S → Type 0
TakesAll takes old [] new = new ≡ old
TakesAll {S} takes old (o ∷ os) new = (after : S) × takes old o after × TakesAll takes after os new

-- The sink took the first n of these, and refused the next.
abbrev pub TakesFirst : {S : Type 0} → (S → Outgoing → S → Type 0) → (S → S → Type 0) → S → List Outgoing → S → Type 0
TakesFirst {S} takes keeps old os new = (n : ℕ) × (n ≤ length os) × (after : S)
    × TakesAll takes old (take n os) after × keeps after new

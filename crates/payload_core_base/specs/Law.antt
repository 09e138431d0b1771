-- What holds of every codec; proofs about whole runs need nothing else.
use Rattle.std.specs.Prelude.{◌≡◌, ℕ, ◌+◌, ◌<◌, ◌≤◌, Bool, true, false, List, [], ◌∷◌, None, All, length, map, take}
use Rattle.std.specs.Prelude.{drop, slice_index_or, Result, Ok, Err}
use Rattle.std.specs.List.{flat_map}
use Rattle.payload_core_base.specs.Format.{Format, Run, read_all}
use Rattle.payload_core_base.specs.Packing.{Packing, Sender, Sent, MarkedPacket, marked}
use Rattle.payload_core_base.specs.declared.error.PacketError.{PacketError}
use Rattle.payload_core_base.specs.declared.extra.CodecExtra.{CodecExtra}

-- The packet assumed past the end.
abbrev pub no_packet : MarkedPacket
no_packet = record { payload = []; marker = false }

-- The packet at a place.
abbrev pub packet_at : List MarkedPacket → ℕ → MarkedPacket
packet_at ps k = slice_index_or ps k no_packet

abbrev pub payloads_of : List MarkedPacket → List (List ℕ)
payloads_of ps = map (λ p. p.payload) ps

-- The bytes of a unit's parts, one after the other.
abbrev pub joined : List (List ℕ) → List ℕ
joined parts = flat_map (λ p. p) parts

-- The packets were read without a refusal, gave all parts from the n-th on (at least one), and left no fragment open.
pub record GivesFrom (run : Run) (parts : List (List ℕ)) (n : ℕ) : Type 0 where
  pub some_part : n < length parts
  pub no_fault : run.fault ≡ None
  pub written : run.written ≡ joined (drop n parts)
  pub closed : run.fragment ≡ None

-- Whether the packet at a place is a tail.
abbrev pub is_tail_at : Format → List MarkedPacket → ℕ → Bool
is_tail_at format ps k = format.tail (packet_at ps k).marker (packet_at ps k).payload

-- The last packet, and no other, is a tail.
pub record LastAloneIsTail (format : Format) (ps : List MarkedPacket) : Type 0 where
  pub last : (k : ℕ) → k + 1 ≡ length ps → is_tail_at format ps k ≡ true
  pub others : (k : ℕ) → k + 1 < length ps → is_tail_at format ps k ≡ false

-- Read from any head to the last packet, with no fragment open before, they give the parts from some part on.
abbrev pub HeadsGiveFinalRuns : Format → List MarkedPacket → List (List ℕ) → Type 0
HeadsGiveFinalRuns format ps parts = (k : ℕ) (extra : CodecExtra) → k < length ps
    → format.head (packet_at ps k).payload ≡ true → (n : ℕ)
    × GivesFrom (read_all format None extra (payloads_of (drop k ps))) parts n

-- The packets of one unit with these parts.
pub record IsFrameOf (format : Format) (ps : List MarkedPacket) (parts : List (List ℕ)) : Type 0 where
  pub not_empty : 0 < length ps
  pub first_is_head : format.head (packet_at ps 0).payload ≡ true
  pub last_alone_is_tail : LastAloneIsTail format ps
  pub heads_give_final_runs : HeadsGiveFinalRuns format ps parts
  pub first_gives_all : (extra : CodecExtra) → GivesFrom (read_all format None extra (payloads_of ps)) parts 0

-- The packets are those of these units, unit after unit.
abbrev pub AreFramesOf : Format → List MarkedPacket → List (List (List ℕ)) → Type 0
AreFramesOf format ps [] = ps ≡ []
AreFramesOf format ps (parts ∷ units) = (n : ℕ) × IsFrameOf format (take n ps) parts
    × AreFramesOf format (drop n ps) units

-- Each packet has at least one byte and at most the limit.
abbrev pub AreWithin : ℕ → List (List ℕ) → Type 0
AreWithin limit ps = All (λ p. (0 < length p) × (length p ≤ limit)) ps

-- Each packet except the last has exactly this length.
abbrev pub AreFull : ℕ → List (List ℕ) → Type 0
AreFull limit ps = (k : ℕ) → k + 1 < length ps → length (slice_index_or ps k []) ≡ limit

-- A codec: both sides of its payload format; the states its packetizer can reach; its well-formed samples at a limit;
-- and, without reference to packets, the units (as lists of parts) that it sends for such a sample and the state after
-- it.
pub record Coding : Type 1 where
  pub packing : Packing
  pub format : Format
  pub IsReached : Sender → Type 0
  pub IsWellFormed : ℕ → List ℕ → Type 0
  pub units : Sender → ℕ → List ℕ → List (List (List ℕ))
  pub after : Sender → ℕ → List ℕ → Sender

-- The accepted sample was sent as these units, and left the packetizer in this state.
pub record IsSentAs (coding : Coding) (limit : ℕ) (sent : Sent) (units : List (List (List ℕ))) (after : Sender)
    : Type 0 where
  pub reached : coding.IsReached sent.sender
  pub within : AreWithin limit sent.packets
  pub frames : AreFramesOf coding.format (marked coding.packing sent.packets) units
  pub leaves : sent.sender ≡ after

-- The sample is accepted and sent as these units, and leaves the packetizer in this state.
abbrev pub SendsUnits : Coding → ℕ → Result Sent PacketError → List (List (List ℕ)) → Sender → Type 0
SendsUnits coding limit (Ok sent) units after = IsSentAs coding limit sent units after
SendsUnits coding limit (Err e) units after = ⊥

-- The codec law: a well-formed sample is accepted and sent as its units, and leaves the packetizer in the state `after`
-- says.
abbrev pub CodecLaw : Coding → Type 0
CodecLaw coding = (sender : Sender) (limit : ℕ) (sample : List ℕ) → coding.IsReached sender
    → coding.IsWellFormed limit sample
    → SendsUnits coding limit (coding.packing.pack sender limit sample) (coding.units sender limit sample)
    (coding.after sender limit sample)

-- An accepted sample that gives no packets doesn't change the packetizer's state.
abbrev pub ChangesWhereSent : Sender → Result Sent PacketError → Type 0
ChangesWhereSent before (Ok sent) = sent.packets ≡ [] → sent.sender ≡ before
ChangesWhereSent before (Err e) = Unit {0}

-- This holds for every sample: without packets no picture id is used.
abbrev pub SilenceKeepsState : Packing → Type 0
SilenceKeepsState packing = (sender : Sender) (limit : ℕ) (sample : List ℕ)
    → ChangesWhereSent sender (packing.pack sender limit sample)

-- Each packet of an accepted sample except the last is exactly as long as the limit.
abbrev pub SendsFull : ℕ → Result Sent PacketError → Type 0
SendsFull limit (Ok sent) = AreFull limit sent.packets
SendsFull limit (Err e) = ⊥

-- This holds for every sample.
abbrev pub FillsPackets : Packing → Type 0
FillsPackets packing = (sender : Sender) (limit : ℕ) (sample : List ℕ)
    → SendsFull limit (packing.pack sender limit sample)

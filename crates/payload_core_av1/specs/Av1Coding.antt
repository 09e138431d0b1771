-- What AV1 packets of a sample are, and what they are to a receiver.
use Rattle.std.specs.Prelude.{◌≡◌, ℕ, ◌<◌, ◌≤◌, Bool, false, List, [], ◌∷◌, map, length, take, drop, nat_lt, Option}
use Rattle.std.specs.Prelude.{Some, None, Ok, Err, if◌then◌else◌}
use Rattle.payload_core_base.specs.Law.{Coding, joined}
use Rattle.payload_core_base.specs.Packing.{Sender, Sent}
use Rattle.payload_core_base.specs.declared.error.PacketError.{PacketError}
use Rattle.payload_core_base.specs.declared.error.PacketError.TheVariants.{ErrAv1CorruptedPacket}
use Rattle.payload_core_av1.specs.Leb128.{Spells, size_limit, spelling}
use Rattle.payload_core_av1.specs.Obus.{Obu, with_its_size}
use Rattle.payload_core_av1.specs.Samples.{AreObus, begins_sequence, kept_of, obus_of}
use Rattle.payload_core_av1.specs.Av1Reading.{av1_format, count_w, has_n, has_y, has_z}
use Rattle.payload_core_av1.specs.Av1Packing.{aggregation, av1_packing, back, count_field, front, is_cut, pack_av1}
use Rattle.payload_core_av1.specs.Av1Packing.{packet_of, texts_of}

-- The spelling of a size below the limit decodes to that size, and no shorter spelling does.
abbrev pub SpellingLaw : Type 0
SpellingLaw = (n : ℕ) → (n < size_limit → Spells (spelling n) n)
    × ((bytes : List ℕ) → Spells bytes n → length (spelling n) ≤ length bytes)

-- The aggregation header's fields can be read back from it.
abbrev pub HeaderLaw : Type 0
HeaderLaw = (z y n : Bool) (count : ℕ) → (has_z (aggregation z y n count) ≡ z)
    × (has_y (aggregation z y n count) ≡ y) × (count_w (aggregation z y n count) ≡ count_field count)
    × (has_n (aggregation z y n count) ≡ n)

-- A prefix and the rest make up the texts again.
abbrev pub PrefixLaw : Type 0
PrefixLaw = (n : ℕ) (texts : List (List ℕ)) → (joined (front n texts) ≡ take n (joined texts))
    × (joined (back n texts) ≡ drop n (joined texts))

-- The longest prefix whose packet fits the limit: no longer one fits.
pub record IsLongest (limit : ℕ) (z n : Bool) (texts : List (List ℕ)) (size : ℕ) : Type 0 where
  pub within : size ≤ length (joined texts)
  pub fits : length (packet_of z (is_cut size texts) n (front size texts)) ≤ limit
  pub no_longer : (m : ℕ) → size < m → m ≤ length (joined texts)
      → limit < length (packet_of z (is_cut m texts) n (front m texts))

-- Packets, each with the longest prefix of the remaining texts: Z and Y mark a cut at the start and at the end, N is on
-- the first packet.
abbrev pub ArePackets : ℕ → Bool → Bool → List (List ℕ) → List (List ℕ) → Type 0
ArePackets limit z n texts [] = texts ≡ []
ArePackets limit z n texts (p ∷ ps) = (size : ℕ) × IsLongest limit z n texts size
    × (p ≡ packet_of z (is_cut size texts) n (front size texts)) × (2 ≤ length p)
    × ArePackets limit (is_cut size texts) false (back size texts) ps

-- A sample's packets are those of its kept OBUs, with N if these start with a sequence header; at a limit below 2 there
-- are no packets.
abbrev pub PacketsLaw : Type 0
PacketsLaw = (s : Sender) (limit : ℕ) (sample : List ℕ) (sent : Sent) (os : List Obu) → pack_av1 s limit sample
    ≡ Ok sent → kept_of sample ≡ Some os
    → (2 ≤ limit → ArePackets limit false (begins_sequence os) (texts_of os) sent.packets)
    × (limit < 2 → sent.packets ≡ [])

-- A sample is refused if and only if it isn't a sequence of OBUs.
abbrev pub RefusedLaw : Type 0
RefusedLaw = (s : Sender) (limit : ℕ) (sample : List ℕ)
    → (obus_of sample ≡ None → pack_av1 s limit sample ≡ Err ErrAv1CorruptedPacket)
    × ((e : PacketError) → pack_av1 s limit sample ≡ Err e → obus_of sample ≡ None)

-- A nonempty sequence of OBUs is a well-formed sample. Its kept OBUs are the parts of one unit, unless there are none
-- or the limit leaves no room.
abbrev pub IsSample : List ℕ → Type 0
IsSample sample = (0 < length sample) × ((os : List Obu) × AreObus sample os)

abbrev pub unit_of : Option (List Obu) → List (List (List ℕ))
unit_of None = []
unit_of (Some []) = []
unit_of (Some (o ∷ os)) = map with_its_size (o ∷ os) ∷ []

abbrev pub av1_units : Sender → ℕ → List ℕ → List (List (List ℕ))
av1_units s limit sample = if nat_lt limit 2 then [] else unit_of (kept_of sample)

abbrev pub av1_coding : Coding
av1_coding = record {
  packing = av1_packing;
  format = av1_format;
  IsReached = λ sender. Unit {0};
  IsWellFormed = λ limit sample. IsSample sample;
  units = av1_units;
  after = λ sender limit sample. sender;
}

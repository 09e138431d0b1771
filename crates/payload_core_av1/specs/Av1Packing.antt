-- AV1 packets as they are sent (RTP payload format for AV1, 4.4, 4.5 and 5).
use Rattle.std.specs.Prelude.{ℕ, zero, suc, ◌+◌, ◌-◌, ◌*◌, ◌==◌, Bool, false, List, [], ◌∷◌, ◌++◌, map, length, take}
use Rattle.std.specs.Prelude.{drop, nat_lt, nat_le, Option, Some, None, Result, Ok, Err, if◌then◌else◌}
use Rattle.payload_core_base.specs.Law.{joined}
use Rattle.payload_core_base.specs.Packing.{Packing, Sender, Sent}
use Rattle.payload_core_base.specs.declared.error.PacketError.{PacketError}
use Rattle.payload_core_base.specs.declared.error.PacketError.TheVariants.{ErrAv1CorruptedPacket}
use Rattle.payload_core_av1.specs.Leb128.{spelling}
use Rattle.payload_core_av1.specs.Obus.{Obu, without_its_size}
use Rattle.payload_core_av1.specs.Samples.{begins_sequence, kept_of}

-- An OBU element preceded by its size.
abbrev pub sized : List ℕ → List ℕ
sized e = spelling (length e) ++ e

-- OBU elements from this index on: each preceded by its size, except the last one if it is among the first three.
abbrev pub body_from : ℕ → List (List ℕ) → List ℕ
body_from place [] = []
body_from place (e ∷ []) = if nat_lt place 3 then e else sized e
body_from place (e ∷ f ∷ es) = sized e ++ body_from (place + 1) (f ∷ es)

-- W: the number of elements if at most three, otherwise 0.
abbrev pub count_field : ℕ → ℕ
count_field count = if nat_le count 3 then count else 0

-- The aggregation header: Z, Y, W and N.
abbrev pub aggregation : Bool → Bool → Bool → ℕ → ℕ
aggregation z y n count = (if z then 128 else 0) + (if y then 64 else 0) + 16 * count_field count + (if n then 8 else 0)

-- The packet of elements.
abbrev pub packet_of : Bool → Bool → Bool → List (List ℕ) → List ℕ
packet_of z y n es = aggregation z y n (length es) ∷ body_from 0 es

-- The first n bytes of the texts, as texts; the last one is cut if needed.
abbrev pub front : ℕ → List (List ℕ) → List (List ℕ)
front n [] = []
front n (e ∷ es) = if n == 0 then [] else (if nat_le n (length e) then take n e ∷ [] else e ∷ front (n - length e) es)

-- The texts after them.
abbrev pub back : ℕ → List (List ℕ) → List (List ℕ)
back n [] = []
back n (e ∷ es) = if nat_lt n (length e) then drop n e ∷ es else back (n - length e) es

-- Whether the first n bytes end inside a text.
abbrev pub is_cut : ℕ → List (List ℕ) → Bool
is_cut n [] = false
is_cut n (e ∷ es) = if nat_lt n (length e) then nat_lt 0 n else is_cut (n - length e) es

-- The greatest number up to a bound that passes the test; 0 if none does.
abbrev pub greatest : (ℕ → Bool) → ℕ → ℕ
greatest test zero = zero
greatest test (suc n) = if test (suc n) then suc n else greatest test n

-- The length of the longest prefix whose packet fits the limit.
abbrev pub fits : ℕ → List (List ℕ) → ℕ → Bool
fits limit texts n = nat_le (1 + length (body_from 0 (front n texts))) limit

unfoldable pub longest : ℕ → List (List ℕ) → ℕ
longest limit texts = greatest (fits limit texts) (length (joined texts))

-- At most k packets, each with the longest prefix of the remaining texts. Z and Y mark a cut at the start and at the
-- end; N is on the first packet.
abbrev pub packets_within : ℕ → ℕ → Bool → Bool → List (List ℕ) → List (List ℕ)
packets_within zero limit z n texts = []
packets_within (suc k) limit z n [] = []
packets_within (suc k) limit z n (e ∷ es) =
    let size = longest limit (e ∷ es) in
    let y = is_cut size (e ∷ es) in
    packet_of z y n (front size (e ∷ es)) ∷ packets_within k limit y false (back size (e ∷ es))

abbrev pub packets_of : ℕ → Bool → List (List ℕ) → List (List ℕ)
packets_of limit n texts = packets_within (length (joined texts)) limit false n texts

-- The texts that OBUs are sent as: without their size fields.
abbrev pub texts_of : List Obu → List (List ℕ)
texts_of os = map without_its_size os

abbrev pub pack_kept : Sender → ℕ → Option (List Obu) → Result Sent PacketError
pack_kept s limit None = Err ErrAv1CorruptedPacket
pack_kept s limit (Some os) = Ok (record
    { packets = if nat_lt limit 2 then [] else packets_of limit (begins_sequence os) (texts_of os); sender = s })

-- A sample that isn't a sequence of OBUs is refused. A limit below 2 leaves no room after the aggregation header.
abbrev pub pack_av1 : Sender → ℕ → List ℕ → Result Sent PacketError
pack_av1 s limit sample = pack_kept s limit (kept_of sample)

-- The last packet of a sample has the marker bit.
abbrev pub av1_packing : Packing
av1_packing = record { pack = pack_av1; marks = λ packet last. last }

-- H.265 and H.266 packets as they are sent (RFC 7798 4.4, RFC 9328 4.3).
use Rattle.std.specs.Prelude.{ℕ, ◌+◌, ◌-◌, ◌&&◌, ◌||◌, Bool, true, List, [], ◌∷◌, ◌++◌, length, take}
use Rattle.std.specs.Prelude.{drop, min, nat_le, Result, Ok, if◌then◌else◌}
use Rattle.std.specs.List.{flat_map, list_all}
use Rattle.h26x_payload_units.specs.Units.{units_of}
use Rattle.payload_core_base.specs.Packing.{Packing, Sender, Sent}
use Rattle.payload_core_base.specs.Pieces.{pieces}
use Rattle.payload_core_base.specs.declared.error.PacketError.{PacketError}
use Rattle.h26x_payload_units.specs.Aggregates.{in_aggregate}
use Rattle.h26x_payload_units.specs.Departures.{Departure, Role, Rules, departures, waiting_after}
use Rattle.h26x_payload_units.specs.Departures.Departure.{Together, Alone}
use Rattle.h26x_payload_units.specs.Departures.Role.{Unsent as NotSent, Waits, Leaves}
use Rattle.h26x_payload_units.specs.Fragments.{in_fragments}
use Rattle.h26x_payload_units.specs.Numbers.{Numbered, number_after, numbered}
use Rattle.h26x_payload_units.specs.declared.layout.Layout.{Layout}
use Rattle.h26x_payload_units.specs.declared.layout.UnitKind.{UnitKind}
use Rattle.h26x_payload_units.specs.declared.layout.UnitKind.TheVariants.{Unsent, Vps, Sps, Pps, Other}
use Rattle.h26x_payload_units.specs.Headers.{aggregate_high, aggregate_low, fragment_type, fu_byte, high_with}
use Rattle.h26x_payload_units.specs.Headers.{layer_of, low_with, needs_vps, tid_of, type_of, unit_kind, unit_type}
use Rattle.h26x_payload_units.specs.Numbers.{dond_bytes, donl_bytes, donl_size}

-- Access unit delimiters and filler data are not sent; the latest VPS, SPS and PPS are held back; any other unit is
-- sent.
abbrev pub role_in : UnitKind → Role
role_in Unsent = NotSent
role_in Vps = Waits 0
role_in Sps = Waits 1
role_in Pps = Waits 2
role_in Other = Leaves

abbrev pub role_by : Layout → ℕ → Role
role_by l type = role_in (unit_kind l type)

-- The minimum of a value over the units.
abbrev pub least : (List ℕ → ℕ) → List (List ℕ) → ℕ
least part [] = 0
least part (u ∷ []) = part u
least part (u ∷ v ∷ us) = min (part u) (least part (v ∷ us))

-- An aggregation packet: its header with the lowest layer id and TID, then the units, each preceded by its size.
abbrev pub aggregate : Layout → Bool → ℕ → List (List ℕ) → List ℕ
aggregate l donl number units = aggregate_high l (least (layer_of l) units)
    ∷ aggregate_low l (least (layer_of l) units) (least tid_of units)
    ∷ in_aggregate (donl_bytes donl number) (dond_bytes l donl) units

-- A single NAL unit packet: the unit as it is, or with its decoding order number after its header, if anything follows
-- the header.
abbrev pub single : Bool → ℕ → List ℕ → List ℕ
single donl number unit = if nat_le (length unit) 2 then unit
    else take 2 unit ++ (donl_bytes donl number ++ drop 2 unit)

-- Each unit's size fits in two bytes, and the aggregation packet is within the limit.
abbrev pub can_join : Layout → Bool → ℕ → List (List ℕ) → Bool
can_join l donl limit units = list_all (λ unit. nat_le (length unit) 65535) units
    && nat_le (length (aggregate l donl 0 units)) limit

-- The unit is within the limit, or the limit leaves room after a fragment's header and decoding order number.
abbrev pub can_leave : Bool → ℕ → List ℕ → Bool
can_leave donl limit unit = nat_le (length (single donl 0 unit)) limit || nat_le (4 + donl_size donl) limit

-- An SPS and a PPS are needed, and for H.265 a VPS too; for H.266 a VPS that is held back goes along.
abbrev pub h265_h266_rules : Layout → Bool → Rules
h265_h266_rules l donl = record {
  role = λ unit. role_by l (unit_type l unit);
  needed = needs_vps l ∷ true ∷ true ∷ [];
  can_join = can_join l donl;
  can_leave = can_leave donl;
}

-- A fragment: the unit's header with the type of fragments, then S, E and the unit's type, then, in the first, the
-- unit's number, then a part of the unit.
abbrev pub fragment : Layout → Bool → ℕ → ℕ → ℕ → Bool → Bool → List ℕ → List ℕ
fragment l donl number high low first last part = high_with l high (fragment_type l) ∷ low_with l low (fragment_type l)
    ∷ fu_byte l first last (type_of l high low) ∷ (donl_bytes (first && donl) number ++ part)

-- The unit's bytes after its header, cut into parts that fill each packet after its own header.
abbrev pub parts_of : Bool → ℕ → List ℕ → List (List ℕ)
parts_of donl limit body = take (limit - 3 - donl_size donl) body
    ∷ pieces (limit - 3) (drop (limit - 3 - donl_size donl) body)

abbrev pub fragments_of : Layout → Bool → ℕ → ℕ → List ℕ → List (List ℕ)
fragments_of l donl limit number [] = []
fragments_of l donl limit number (high ∷ []) = []
fragments_of l donl limit number (high ∷ low ∷ body) =
    in_fragments (fragment l donl number high low) true (parts_of donl limit body)

abbrev pub alone_packets : Layout → Bool → ℕ → ℕ → List ℕ → List (List ℕ)
alone_packets l donl limit number unit = if nat_le (length (single donl number unit)) limit
    then single donl number unit ∷ [] else fragments_of l donl limit number unit

abbrev pub departure_packets : Layout → Bool → ℕ → ℕ → Departure → List (List ℕ)
departure_packets l donl limit number (Together sets) = aggregate l donl number sets ∷ []
departure_packets l donl limit number (Alone unit) = alone_packets l donl limit number unit

-- The packets of what leaves: an aggregate, or a unit alone, or its fragments if it passes the limit.
abbrev pub packets_of : Layout → Bool → ℕ → Numbered → List (List ℕ)
packets_of l donl limit n = departure_packets l donl limit n.number n.departure

-- No packet is longer than 1,200 bytes.
abbrev pub least_limit : ℕ → ℕ
least_limit mtu = min mtu 1200

-- The departures of a sample.
abbrev pub leaving : Layout → Bool → Sender → ℕ → List ℕ → List Departure
leaving l donl s mtu sample = departures (h265_h266_rules l donl) (least_limit mtu) s.waiting (units_of sample)

abbrev pub packets_sent : Layout → Bool → Sender → ℕ → List ℕ → List (List ℕ)
packets_sent l donl s mtu sample = flat_map (packets_of l donl (least_limit mtu))
    (numbered s.number (leaving l donl s mtu sample))

-- The decoding order number of the next unit, and the parameter sets held back by then.
abbrev pub h265_h266_after : Layout → Bool → Sender → ℕ → List ℕ → Sender
h265_h266_after l donl s mtu sample = record {
  number = number_after s.number (leaving l donl s mtu sample);
  waiting = waiting_after (h265_h266_rules l donl) s.waiting (units_of sample);
}

-- The packets sent for a sample, the decoding order number of the next unit, and the parameter sets then held back.
abbrev pub pack_h265_h266 : Layout → Bool → Sender → ℕ → List ℕ → Result Sent PacketError
pack_h265_h266 l donl s mtu sample = Ok (record {
  packets = packets_sent l donl s mtu sample;
  sender = h265_h266_after l donl s mtu sample;
})

-- The last packet of a sample has the marker bit.
abbrev pub h265_h266_packing : Layout → Bool → Packing
h265_h266_packing l donl = record { pack = pack_h265_h266 l donl; marks = λ packet last. last }

-- H.264 packets as they are sent (RFC 6184 5.6, 5.7.1 and 5.8).
use Rattle.std.specs.Prelude.{ℕ, ◌+◌, ◌-◌, ◌*◌, ◌/◌, ◌%◌, ◌==◌, ◌&&◌, ◌||◌, Bool, true, List, [], ◌∷◌, length, nat_le}
use Rattle.std.specs.Prelude.{Result, Ok, if◌then◌else◌}
use Rattle.std.specs.List.{flat_map, list_all}
use Rattle.h26x_payload_units.specs.Units.{units_of}
use Rattle.payload_core_base.specs.Packing.{Packing, Sender, Sent}
use Rattle.payload_core_base.specs.Pieces.{pieces}
use Rattle.payload_core_base.specs.declared.error.PacketError.{PacketError}
use Rattle.h26x_payload_units.specs.Aggregates.{sized}
use Rattle.h26x_payload_units.specs.Departures.{Departure, Role, Rules, departures, waiting_after}
use Rattle.h26x_payload_units.specs.Departures.Departure.{Together, Alone}
use Rattle.h26x_payload_units.specs.Departures.Role.{Unsent, Waits, Leaves}
use Rattle.h26x_payload_units.specs.Fragments.{in_fragments}
use Rattle.h26x_payload_formats.specs.H264Headers.{type_of}

abbrev pub unit_type : List ℕ → ℕ
unit_type [] = 0
unit_type (header ∷ body) = type_of header

-- Access unit delimiters (9) and filler data (12) are not sent; the latest SPS (7) and PPS (8) are held back.
abbrev pub role_by : ℕ → Role
role_by type =
    if (type == 9) || (type == 12) then Unsent
    else (if type == 7 then Waits 0
    else (if type == 8 then Waits 1
    else Leaves))

-- A STAP-A: NRI 3 and type 24, then the units, each preceded by its size.
abbrev pub stap_a : List (List ℕ) → List ℕ
stap_a units = 120 ∷ flat_map sized units

-- Each unit's size fits in two bytes, and the STAP-A is within the limit.
abbrev pub can_join : ℕ → List (List ℕ) → Bool
can_join limit units = list_all (λ unit. nat_le (length unit) 65535) units && nat_le (length (stap_a units)) limit

-- The unit is within the limit, or the limit leaves room after the two header bytes of an FU-A.
abbrev pub can_leave : ℕ → List ℕ → Bool
can_leave limit unit = nat_le (length unit) limit || nat_le 3 limit

abbrev pub h264_rules : Rules
h264_rules = record {
  role = λ unit. role_by (unit_type unit);
  needed = true ∷ true ∷ [];
  can_join =
      can_join;
  can_leave = can_leave;
}

-- An FU-A: NRI of the unit's header and type 28, then S, E and the unit's type, then a part of the unit.
abbrev pub fu_a : ℕ → Bool → Bool → List ℕ → List ℕ
fu_a header first last part = (header / 32 % 4 * 32 + 28)
    ∷ ((if first then 128 else 0) + (if last then 64 else 0) + type_of header) ∷ part

-- A unit's bytes after its header, cut into parts that fill the limit.
abbrev pub fragments_of : ℕ → List ℕ → List (List ℕ)
fragments_of limit [] = []
fragments_of limit (header ∷ body) = in_fragments (fu_a header) true (pieces (limit - 2) body)

-- The packets of a departure: a STAP-A, or a single NAL unit, or its fragments if it exceeds the limit.
abbrev pub packets_of : ℕ → Departure → List (List ℕ)
packets_of limit (Together sets) = stap_a sets ∷ []
packets_of limit (Alone unit) = if nat_le (length unit) limit then unit ∷ [] else fragments_of limit unit

-- The parameter sets held back after a sample.
abbrev pub h264_after : Sender → ℕ → List ℕ → Sender
h264_after s limit sample = record { number = s.number; waiting = waiting_after h264_rules s.waiting (units_of sample) }

-- The packets sent for a sample, and the parameter sets held back after it.
abbrev pub pack_h264 : Sender → ℕ → List ℕ → Result Sent PacketError
pack_h264 s limit sample = Ok (record {
  packets = flat_map (packets_of limit) (departures h264_rules limit s.waiting (units_of sample));
  sender = h264_after s limit sample;
})

-- The last packet of a sample has the marker bit.
abbrev pub h264_packing : Packing
h264_packing = record { pack = pack_h264; marks = λ packet last. last }

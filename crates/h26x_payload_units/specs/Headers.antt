-- The first bytes of H.265 and H.266 units and packets (RFC 7798 1.1.4, 4.2 and 4.4.3; RFC 9328 1.1.4 and 4.3.3). A
-- header has two bytes, of H.265 F, the type in six bits, the layer in six and TID in three, of H.266 F, Z, the layer
-- in six bits, the type in five and TID in three. A fragment has one more: S, E, of H.266 P, and the type.
use Rattle.std.specs.Prelude.{ℕ, ◌+◌, ◌*◌, ◌/◌, ◌%◌, ◌==◌, ◌&&◌, ◌||◌, Bool, true, false, List, [], ◌∷◌, nat_le}
use Rattle.std.specs.Prelude.{if◌then◌else◌}
use Rattle.h26x_payload_units.specs.declared.layout.Layout.{Layout}
use Rattle.h26x_payload_units.specs.declared.layout.Layout.TheVariants.{H265, H266}
use Rattle.h26x_payload_units.specs.declared.layout.PacketKind.{PacketKind}
use Rattle.h26x_payload_units.specs.declared.layout.PacketKind.TheVariants.{Single, Aggregate, Fragment, Unhandled}
use Rattle.h26x_payload_units.specs.declared.layout.UnitKind.{UnitKind}
use Rattle.h26x_payload_units.specs.declared.layout.UnitKind.TheVariants.{Unsent, Vps, Sps, Pps, Other}

abbrev pub has_f : ℕ → Bool
has_f high = nat_le 128 high

abbrev pub type_of : Layout → ℕ → ℕ → ℕ
type_of H265 high low = high / 2 % 64
type_of H266 high low = low / 8

-- A header's bytes with another type.
abbrev pub high_with : Layout → ℕ → ℕ → ℕ
high_with H265 high type = high / 128 * 128 + type % 64 * 2 + high % 2
high_with H266 high type = high

abbrev pub low_with : Layout → ℕ → ℕ → ℕ
low_with H265 low type = low
low_with H266 low type = type % 32 * 8 + low % 8

-- Types up to this one are single NAL units; the next is the aggregation packet, and the one after it the fragmentation
-- unit.
abbrev pub last_alone : Layout → ℕ
last_alone H265 = 47
last_alone H266 = 27

abbrev pub aggregate_type : Layout → ℕ
aggregate_type H265 = 48
aggregate_type H266 = 28

abbrev pub fragment_type : Layout → ℕ
fragment_type H265 = 49
fragment_type H266 = 29

abbrev pub kind_by : Layout → ℕ → PacketKind
kind_by l type =
    if nat_le type (last_alone l) then Single
    else (if type == aggregate_type l then Aggregate
    else (if type == fragment_type l then Fragment
    else Unhandled))

abbrev pub kind_of : Layout → ℕ → ℕ → PacketKind
kind_of l high low = kind_by l (type_of l high low)

-- The types of random access pictures (ITU-T H.265 table 7-1, ITU-T H.266 table 5).
abbrev pub is_irap : Layout → ℕ → Bool
is_irap H265 type = nat_le 16 type && nat_le type 23
is_irap H266 type = nat_le 7 type && nat_le type 9

-- How a sender treats each type: access unit delimiters and filler data are not sent, parameter sets are held back
-- (ITU-T H.265 table 7-1, ITU-T H.266 table 5).
abbrev pub unit_kind : Layout → ℕ → UnitKind
unit_kind H265 type =
    if (type == 35) || (type == 38) then Unsent
    else (if type == 32 then Vps
    else (if type == 33 then Sps
    else (if type == 34 then Pps
    else Other)))
unit_kind H266 type =
    if (type == 20) || (type == 25) then Unsent
    else (if type == 14 then Vps
    else (if type == 15 then Sps
    else (if type == 16 then Pps
    else Other)))

-- Whether a VPS is required before the parameter sets are sent.
abbrev pub needs_vps : Layout → Bool
needs_vps H265 = true
needs_vps H266 = false

abbrev pub layer_in : Layout → ℕ → ℕ → ℕ
layer_in H265 high low = high % 2 * 32 + low / 8 % 32
layer_in H266 high low = high % 64

-- The type, the layer and TID of a unit. Bytes that a short unit lacks count as 0.
abbrev pub unit_type : Layout → List ℕ → ℕ
unit_type l [] = 0
unit_type l (high ∷ []) = type_of l high 0
unit_type l (high ∷ low ∷ body) = type_of l high low

abbrev pub layer_of : Layout → List ℕ → ℕ
layer_of l [] = 0
layer_of l (high ∷ []) = layer_in l high 0
layer_of l (high ∷ low ∷ body) = layer_in l high low

abbrev pub tid_of : List ℕ → ℕ
tid_of [] = 0
tid_of (high ∷ []) = 0
tid_of (high ∷ low ∷ body) = low % 8

-- The header of an aggregate with this layer and TID.
abbrev pub aggregate_high : Layout → ℕ → ℕ
aggregate_high H265 layer = 96 + layer / 32 % 2
aggregate_high H266 layer = layer % 64

abbrev pub aggregate_low : Layout → ℕ → ℕ → ℕ
aggregate_low H265 layer tid = layer % 32 * 8 + tid % 8
aggregate_low H266 layer tid = 224 + tid % 8

abbrev pub has_start : ℕ → Bool
has_start fu = fu / 128 % 2 == 1

abbrev pub has_end : ℕ → Bool
has_end fu = fu / 64 % 2 == 1

abbrev pub fu_type : Layout → ℕ → ℕ
fu_type H265 fu = fu % 64
fu_type H266 fu = fu % 32

-- S, E and the type, of H.266 with P clear.
abbrev pub fu_byte : Layout → Bool → Bool → ℕ → ℕ
fu_byte l first last type = (if first then 128 else 0) + (if last then 64 else 0) + fu_type l type

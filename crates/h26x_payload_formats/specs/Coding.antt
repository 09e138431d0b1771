-- What H.265 and H.266 packets of a sample are to a receiver.
use Rattle.std.specs.Prelude.{ℕ, ◌+◌, ◌<◌, ◌≤◌, Bool, List, [], ◌∷◌, length, None}
use Rattle.h26x_payload_units.specs.Units.{units_of}
use Rattle.payload_core_base.specs.Format.{read_all}
use Rattle.payload_core_base.specs.Law.{AreFull, AreWithin, CodecLaw, Coding}
use Rattle.payload_core_base.specs.Packing.{Sender}
use Rattle.payload_core_base.specs.declared.extra.CodecExtra.{CodecExtra}
use Rattle.h26x_payload_units.specs.Departures.{EachUnit, units_sent}
use Rattle.h26x_payload_units.specs.Given.{GivesUnits, unit_of}
use Rattle.h26x_payload_units.specs.declared.layout.Layout.{Layout}
use Rattle.h26x_payload_units.specs.Headers.{last_alone, type_of}
use Rattle.h26x_payload_units.specs.Numbers.{donl_size}
use Rattle.h26x_payload_formats.specs.Packing.{fragments_of, h265_h266_after, h265_h266_packing, h265_h266_rules}
use Rattle.h26x_payload_formats.specs.Packing.{least_limit, packets_sent}
use Rattle.h26x_payload_formats.specs.Reading.{h265_h266_format}

-- The unit's F bit (the header's top bit) is clear, its type is one that may be sent as a single NAL unit, and it has
-- at least one byte after its header.
abbrev pub IsSendable : Layout → List ℕ → Type 0
IsSendable l [] = ⊥
IsSendable l (high ∷ []) = ⊥
IsSendable l (high ∷ low ∷ body) = (high < 128) × (type_of l high low ≤ last_alone l) × (0 < length body)

abbrev pub AreSendable : Layout → List (List ℕ) → Type 0
AreSendable l units = EachUnit (IsSendable l) units

-- The units sent for a sample.
abbrev pub h265_h266_units_sent : Layout → Bool → Sender → ℕ → List ℕ → List (List ℕ)
h265_h266_units_sent l donl s mtu sample =
    units_sent (h265_h266_rules l donl) (least_limit mtu) s.waiting (units_of sample)

abbrev pub h265_h266_coding : Layout → Bool → Coding
h265_h266_coding l donl = record {
  packing = h265_h266_packing l donl;
  format = h265_h266_format l donl;
  IsReached = λ sender. Unit {0};
  IsWellFormed = λ limit sample. AreSendable l (units_of sample);
  units = λ sender limit sample. unit_of (h265_h266_units_sent l donl sender limit sample);
  after = h265_h266_after l donl;
}

-- With decoding order numbers or without, both codecs keep the codec law.
abbrev pub KeepsCodecLaw : Type 0
KeepsCodecLaw = (l : Layout) (donl : Bool) → CodecLaw (h265_h266_coding l donl)

-- A well-formed sample's packets give just the units that are sent of it.
abbrev pub UnitsLaw : Type 0
UnitsLaw = (l : Layout) (donl : Bool) (s : Sender) (mtu : ℕ) (sample : List ℕ) (extra : CodecExtra)
    → AreSendable l (units_of sample)
    → GivesUnits (read_all (h265_h266_format l donl) None extra (packets_sent l donl s mtu sample))
    (h265_h266_units_sent l donl s mtu sample)

-- No packet exceeds the limit, or 1,200 bytes.
abbrev pub WithinLaw : Type 0
WithinLaw = (l : Layout) (donl : Bool) (s : Sender) (mtu : ℕ) (sample : List ℕ)
    → AreWithin (least_limit mtu) (packets_sent l donl s mtu sample)

-- Every fragment of a unit except the last is as long as the limit.
abbrev pub FullLaw : Type 0
FullLaw = (l : Layout) (donl : Bool) (limit number : ℕ) (unit : List ℕ) → 4 + donl_size donl ≤ limit
    → AreFull limit (fragments_of l donl limit number unit)

-- What H.264 packets of a sample are to a receiver.
use Rattle.std.specs.Prelude.{ℕ, ◌<◌, ◌≤◌, List, [], ◌∷◌, None}
use Rattle.std.specs.List.{flat_map}
use Rattle.h26x_payload_units.specs.Units.{units_of}
use Rattle.payload_core_base.specs.Format.{read_all}
use Rattle.payload_core_base.specs.Law.{AreFull, AreWithin, Coding}
use Rattle.payload_core_base.specs.Packing.{Sender}
use Rattle.payload_core_base.specs.declared.extra.CodecExtra.{CodecExtra}
use Rattle.h26x_payload_units.specs.Departures.{EachUnit, departures, units_sent}
use Rattle.h26x_payload_units.specs.Given.{GivesUnits, unit_of}
use Rattle.h26x_payload_formats.specs.H264Headers.{type_of}
use Rattle.h26x_payload_formats.specs.H264Packing.{fragments_of, h264_after, h264_packing, h264_rules, packets_of}
use Rattle.h26x_payload_formats.specs.H264Reading.{h264_format}

-- The unit's F bit (the header's top bit) is clear, and its type is 1 to 23.
abbrev pub IsSendable : List ℕ → Type 0
IsSendable [] = ⊥
IsSendable (header ∷ body) = (header < 128) × (1 ≤ type_of header) × (type_of header ≤ 23)

abbrev pub AreSendable : List (List ℕ) → Type 0
AreSendable units = EachUnit IsSendable units

-- The packets a sample is sent in, and the units sent for it.
abbrev pub packets_sent : Sender → ℕ → List ℕ → List (List ℕ)
packets_sent s limit sample = flat_map (packets_of limit) (departures h264_rules limit s.waiting (units_of sample))

abbrev pub h264_units_sent : Sender → ℕ → List ℕ → List (List ℕ)
h264_units_sent s limit sample = units_sent h264_rules limit s.waiting (units_of sample)

abbrev pub h264_coding : Coding
h264_coding = record {
  packing = h264_packing;
  format = h264_format;
  IsReached = λ sender. Unit {0};
  IsWellFormed = λ limit sample. AreSendable (units_of sample);
  units = λ sender limit sample. unit_of (h264_units_sent sender limit sample);
  after = h264_after;
}

-- A well-formed sample's packets give just the units that are sent of it.
abbrev pub UnitsLaw : Type 0
UnitsLaw = (s : Sender) (limit : ℕ) (sample : List ℕ) (extra : CodecExtra) → AreSendable (units_of sample)
    → GivesUnits (read_all h264_format None extra (packets_sent s limit sample)) (h264_units_sent s limit sample)

-- No packet exceeds the limit.
abbrev pub WithinLaw : Type 0
WithinLaw = (s : Sender) (limit : ℕ) (sample : List ℕ) → AreWithin limit (packets_sent s limit sample)

-- Every fragment of a unit except the last is as long as the limit.
abbrev pub FullLaw : Type 0
FullLaw = (limit : ℕ) (unit : List ℕ) → 3 ≤ limit → AreFull limit (fragments_of limit unit)

-- Samples of several streams that a forwarder sends on, one stream after the other.
use Rattle.std.specs.Prelude.{◌≡◌, ℕ, List, [], ◌∷◌, map}
use Rattle.std.specs.List.{flat_map}
use Rattle.payload_core_base.specs.Format.{Format}
use Rattle.rtp_wire.specs.Carried.{AreValues}
use Rattle.rtp_wire.specs.declared.values.ExtensionValues.{ExtensionValues}
use Rattle.rtp_media_schedules.specs.SentSamples.{Timed, timed}
use Rattle.rtp_media_streams.specs.Rows.{format_of}
use Rattle.rtp_media_streams.specs.Sending.{Sample, Sending}
use Rattle.rtp_media_ends.specs.FullArrival.{AreSound, IsSender, sent_samples, units_of}
use Rattle.rtp_media_forward.specs.Forwarding.{shifted}
use Rattle.rtp_media_forward.specs.Relayed.{Part}

-- Samples of a publisher that are sent on: the source that it is to the forwarder, its stream before them, and what is
-- added to their timestamps.
pub record Publication : Type 0 where
  pub source : ℕ
  pub stream : Sending
  pub shift : ℕ
  pub samples : List Sample

abbrev pub part_of : Publication → Part
part_of p = record {
  source = p.source;
  first = p.stream.next;
  shift = p.shift;
  samples = sent_samples p.stream p.samples;
}

abbrev pub parts_of : List Publication → List Part
parts_of ps = map part_of ps

-- The streams may send their samples, and all are of one payload format.
abbrev pub ArePublished : Format → List Publication → Type 0
ArePublished format [] = Unit {0}
ArePublished format (p ∷ ps) = IsSender p.stream × AreSound p.stream p.samples × (format_of p.stream.row ≡ format)
    × ArePublished format ps

-- What a forwarder makes of values can be written if they can.
abbrev pub KeepsValues : (ExtensionValues → ExtensionValues) → Type 0
KeepsValues own = (v : ExtensionValues) → AreValues v → AreValues (own v)

-- A unit as it is sent on.
abbrev pub unit_on : (ExtensionValues → ExtensionValues) → ℕ → Timed → Timed
unit_on values shift u = timed (shifted shift u.time) (values u.values) u.bytes

-- The canonical units of the publishers' samples, as they are sent on.
abbrev pub units_on : (ExtensionValues → ExtensionValues) → List Publication → List Timed
units_on values ps = flat_map (λ p. map (unit_on values p.shift) (units_of p.stream p.samples)) ps

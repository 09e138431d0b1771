-- What samples send, one after the other, and their canonical units.
use Rattle.std.specs.Prelude.{ℕ, ◌+◌, List, [], ◌∷◌, ◌++◌, length, map, if◌then◌else◌}
use Rattle.std.specs.List.{flat_map}
use Rattle.payload_core_base.specs.Format.{Format}
use Rattle.payload_core_base.specs.Law.{AreFramesOf, Coding, joined}
use Rattle.payload_core_base.specs.Packing.{MarkedPacket, marked}
use Rattle.payload_core_base.specs.Packing as packing
use Rattle.rtp_media_schedules.specs.Hearing.{Content, content_of}
use Rattle.rtp_media_schedules.specs.SentSamples.{Timed, sent_or, timed}
use Rattle.rtp_media_schedules.specs.Sending.{Canonical}
use Rattle.rtp_wire.specs.declared.values.ExtensionValues.{ExtensionValues}

-- A sample that was sent: its RTP timestamp, the values of its header extensions that arrive, its packets,
-- and its units, each as its parts.
pub record SentSample : Type 0 where
  pub time : ℕ
  pub values : ExtensionValues
  pub packets : List MarkedPacket
  pub units : List (List (List ℕ))

-- In this format, each sample's packets are the frames of its units.
abbrev pub AreSentAs : Format → List SentSample → Type 0
AreSentAs format [] = Unit {0}
AreSentAs format (s ∷ ss) = AreFramesOf format s.packets s.units × AreSentAs format ss

-- All their packets.
abbrev pub packets_of : List SentSample → List MarkedPacket
packets_of ss = flat_map (λ s. s.packets) ss

abbrev pub contents_by : ℕ → ExtensionValues → List MarkedPacket → List Content
contents_by time values ps = map (λ p. content_of time p.marker values p.payload) ps

-- What their datagrams bring, in order.
abbrev pub datagrams : List SentSample → List Content
datagrams ss = flat_map (λ s. contents_by s.time s.values s.packets) ss

-- The units of a sample with datagrams from n on.
abbrev pub units_in : ℕ → SentSample → List Canonical
units_in n s = map (λ parts. record {
  first = n;
  end = n + length s.packets;
  time = s.time;
  values =
      s.values;
  parts = parts;
}) s.units

-- The canonical units of samples, each with the numbers of its sample's datagrams, which are numbered from n on.
abbrev pub canonical_units : ℕ → List SentSample → List Canonical
canonical_units n [] = []
canonical_units n (s ∷ ss) = units_in n s ++ canonical_units (n + length s.packets) ss

-- The number of packets up to each tail, if `open_` packets came before.
abbrev pub sizes_from : Format → ℕ → List MarkedPacket → List ℕ
sizes_from format open_ [] = []
sizes_from format open_ (p ∷ ps) = if format.tail p.marker p.payload then (open_ + 1) ∷ sizes_from format 0 ps
    else sizes_from format (open_ + 1) ps

-- How many datagrams each unit has.
abbrev pub frame_sizes : Format → List SentSample → List ℕ
frame_sizes format ss = sizes_from format 0 (packets_of ss)

-- A canonical unit, without its numbers.
abbrev pub whole_unit : Canonical → Timed
whole_unit c = timed c.time c.values (joined c.parts)

-- Samples as a codec sends them, one after the other, at a limit.
abbrev pub sent_by : Coding → ℕ → packing.Sender → List Timed → List SentSample
sent_by coding limit sender [] = []
sent_by coding limit sender (x ∷ xs) =
    record {
      time = x.time;
      values = x.values;
      packets =
          marked coding.packing (sent_or sender (coding.packing.pack sender limit x.bytes)).packets;
      units =
          coding.units sender limit x.bytes;
    }
    ∷ sent_by coding limit (sent_or sender (coding.packing.pack sender limit x.bytes)).sender xs

-- Each of them is well-formed at the limit.
abbrev pub AreWellFormed : Coding → ℕ → List Timed → Type 0
AreWellFormed coding limit [] = Unit {0}
AreWellFormed coding limit (x ∷ xs) = coding.IsWellFormed limit x.bytes × AreWellFormed coding limit xs

-- What samples of any codec send: frames of packets, and the canonical units.
use Rattle.std.specs.Prelude.{◌≡◌, ℕ, ◌+◌, ◌-◌, false, List, [], ◌∷◌, length, map, slice_index_or, Result, Ok, Err}
use Rattle.std.specs.List.{flat_map}
use Rattle.payload_core_base.specs.Format.{Format}
use Rattle.payload_core_base.specs.Law.{IsFrameOf, joined}
use Rattle.payload_core_base.specs.Packing.{MarkedPacket}
use Rattle.payload_core_base.specs.declared.error.PacketError.{PacketError}
use Rattle.payload_core_base.specs.declared.extra.CodecExtra.{CodecExtra}
use Rattle.rtp_media_schedules.specs.Hearing.{Content, content_of}
use Rattle.payload_core_buffer.specs.Steps.{MediaUnit}
use Rattle.rtp_media_schedules.specs.Turns.{Sender}
use Rattle.rtp_wire.specs.Values.{absent}
use Rattle.rtp_wire.specs.declared.values.ExtensionValues.{ExtensionValues}

-- The packets of one unit, with its timestamp, its header extension values and its parts.
pub record SentFrame : Type 0 where
  pub time : ℕ
  pub values : ExtensionValues
  pub packets : List MarkedPacket
  pub parts : List (List ℕ)

-- Each is the frame of its parts in this format.
abbrev pub AreFrames : Format → List SentFrame → Type 0
AreFrames format [] = Unit {0}
AreFrames format (f ∷ fs) = IsFrameOf format f.packets f.parts × AreFrames format fs

-- How many packets each has.
abbrev pub sizes : List SentFrame → List ℕ
sizes fs = map (λ f. length f.packets) fs

-- How many packets they have.
abbrev pub total : List ℕ → ℕ
total [] = 0
total (z ∷ zs) = z + total zs

-- What the datagrams of a frame contain.
abbrev pub contents_in : SentFrame → List Content
contents_in f = map (λ p. content_of f.time p.marker f.values p.payload) f.packets

-- The contents of all datagrams, in order.
abbrev pub contents : List SentFrame → List Content
contents fs = flat_map contents_in fs

abbrev pub no_content : Content
no_content = content_of 0 false absent []

-- The content of the datagram with this number, the first datagram having number `first`.
abbrev pub numbered : ℕ → List Content → Sender
numbered first cs x = slice_index_or cs (x - first) no_content

abbrev pub sender_of : ℕ → List SentFrame → Sender
sender_of first fs = numbered first (contents fs)

-- A canonical unit: its datagrams' numbers (`end` exclusive), its timestamp, its header extension values, and its
-- parts.
pub record Canonical : Type 0 where
  pub first : ℕ
  pub end : ℕ
  pub time : ℕ
  pub values : ExtensionValues
  pub parts : List (List ℕ)

-- The canonical unit of a frame that is numbered from n on.
abbrev pub canonical : ℕ → SentFrame → Canonical
canonical n f = record { first = n; end = n + length f.packets; time = f.time; values = f.values; parts = f.parts }

-- The canonical units of frames that are numbered from n on.
abbrev pub canonical_from : ℕ → List SentFrame → List Canonical
canonical_from n [] = []
canonical_from n (f ∷ fs) = canonical n f ∷ canonical_from (n + length f.packets) fs

-- A canonical unit as it is handed out: whole, with its codec data.
abbrev pub whole : Canonical → CodecExtra → MediaUnit
whole c extra = record {
  first = c.first;
  last = c.end - 1;
  time = c.time;
  values = c.values;
  bytes = joined c.parts;
  extra = extra;
}

-- Exactly these units are handed out, in order and whole; their codec data is left open.
abbrev pub AreWhole : List (Result MediaUnit PacketError) → List Canonical → Type 0
AreWhole [] [] = Unit {0}
AreWhole [] (c ∷ cs) = ⊥
AreWhole (r ∷ rs) [] = ⊥
AreWhole (Err e ∷ rs) (c ∷ cs) = ⊥
AreWhole (Ok u ∷ rs) (c ∷ cs) = (u ≡ whole c u.extra) × AreWhole rs cs

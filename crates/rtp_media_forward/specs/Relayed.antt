-- What a stream sends that sends on parts of other streams: samples of these, with other times and values.
use Rattle.std.specs.Prelude.{◌≡◌, ℕ, ◌+◌, ◌<◌, ◌≤◌, List, [], ◌∷◌, ◌++◌, length, map}
use Rattle.payload_core_base.specs.Format.{Format}
use Rattle.rtp_wire.specs.declared.values.ExtensionValues.{ExtensionValues}
use Rattle.rtp_media_schedules.specs.Hearing.{Content, content_of}
use Rattle.rtp_media_schedules.specs.Samples.{AreSentAs, SentSample, datagrams, packets_of}
use Rattle.rtp_media_schedules.specs.Sending.{numbered}
use Rattle.rtp_media_forward.specs.Forwarding.{shifted}
use Rattle.rtp_media_forward.specs.declared.forwarder.Piece.{Piece}

-- Samples of one source that are sent on, one after the other: the source, the number of their first datagram there,
-- what is added to their timestamps, and the samples as the source sends them.
pub record Part : Type 0 where
  pub source : ℕ
  pub first : ℕ
  pub shift : ℕ
  pub samples : List SentSample

-- Their number of datagrams.
abbrev pub count_in : Part → ℕ
count_in p = length (packets_of p.samples)

abbrev pub count_of : List Part → ℕ
count_of [] = 0
count_of (p ∷ ps) = count_in p + count_of ps

-- The pieces of parts that are sent on one after the other, numbered from here on.
abbrev pub piece_at : ℕ → Part → Piece
piece_at out p = record { source = p.source; first = p.first; out = out; shift = p.shift }

abbrev pub pieces_from : ℕ → List Part → List Piece
pieces_from out [] = []
pieces_from out (p ∷ ps) = piece_at out p ∷ pieces_from (out + count_in p) ps

-- A sample as it is sent on: its packets and its units stay.
abbrev pub relayed_sample : (ExtensionValues → ExtensionValues) → ℕ → SentSample → SentSample
relayed_sample values shift s = record {
  time = shifted shift s.time;
  values = values s.values;
  packets = s.packets;
  units = s.units;
}

abbrev pub relayed_samples : (ExtensionValues → ExtensionValues) → Part → List SentSample
relayed_samples values p = map (relayed_sample values p.shift) p.samples

-- The samples that the stream sends: those of the parts, one part after the other.
abbrev pub relayed : (ExtensionValues → ExtensionValues) → List Part → List SentSample
relayed values [] = []
relayed values (p ∷ ps) = relayed_samples values p ++ relayed values ps

-- What a datagram brings, as it is sent on.
abbrev pub relayed_content : (ExtensionValues → ExtensionValues) → ℕ → Content → Content
relayed_content values shift c = content_of (shifted shift c.time) c.marker (values c.values) c.bytes

-- Each source sends the samples of its part as this format reads them.
abbrev pub AreRead : Format → List Part → Type 0
AreRead format [] = Unit {0}
AreRead format (p ∷ ps) = AreSentAs format p.samples × AreRead format ps

-- A number of a part's datagrams at its source.
abbrev pub IsOf : Part → ℕ → Type 0
IsOf p x = (p.first ≤ x) × (x < p.first + count_in p)

-- What the datagram of a number brings at a part's source.
abbrev pub content_at : Part → ℕ → Content
content_at p x = numbered p.first (datagrams p.samples) x

-- What the sources' datagrams bring, by source and number, is what those of the parts' samples bring.
abbrev pub AreFrom : (ℕ → ℕ → Content) → List Part → Type 0
AreFrom senders [] = Unit {0}
AreFrom senders (p ∷ ps) = ((x : ℕ) → IsOf p x → content_at p x ≡ senders p.source x) × AreFrom senders ps

-- Where a source's datagram could be one of the last part's, it is one.
abbrev pub IsWithin : List Part → (source number : ℕ) → Type 0
IsWithin [] source number = Unit {0}
IsWithin (p ∷ []) source number = p.source ≡ source → p.first ≤ number → number < p.first + count_in p
IsWithin (p ∷ q ∷ ps) source number = IsWithin (q ∷ ps) source number

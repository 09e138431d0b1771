-- One stream with redundancy and one without.
use Rattle.std.specs.Prelude.{◌≡◌, ℕ, ◌+◌, ◌<◌, ◌≤◌, List, All, None}
use Rattle.rtp_media_streams.specs.Sending.{Sample, Sending, packet_limit}
use Rattle.rtp_media_streams.specs.Receiving.{Receiving}
use Rattle.rtp_media_ends.specs.FullArrival.{AreSound, IsSender, count_of}

-- Two streams that agree in SSRC, payload types, map, row, options, next number, packet limit and packetizer state; the
-- first adds no redundancy.
pub record AreTwins (plain redundant : Sending) : Type 0 where
  pub ssrc : redundant.ssrc ≡ plain.ssrc
  pub types : redundant.types ≡ plain.types
  pub map : redundant.map ≡ plain.map
  pub row : redundant.row ≡ plain.row
  pub has_id : redundant.has_id ≡ plain.has_id
  pub for_browsers : redundant.for_browsers ≡ plain.for_browsers
  pub next : redundant.next ≡ plain.next
  pub packets : packet_limit redundant ≡ packet_limit plain
  pub packetizer : redundant.packetizer ≡ plain.packetizer
  pub none : plain.redundancy ≡ None
  pub plain_sound : IsSender plain
  pub redundant_sound : IsSender redundant

-- A receiving stream of a sending one.
pub record Receives (r : Receiving) (s : Sending) : Type 0 where
  pub ssrc : r.ssrc ≡ s.ssrc
  pub types : r.types ≡ s.types
  pub map : r.map ≡ s.map

-- Samples a stream sends, and numbers of their datagrams, in any order, each any number of times.
pub record AreSent (s : Sending) (samples : List Sample) (numbers : List ℕ) : Type 0 where
  pub sound : AreSound s samples
  pub in_range : All (λ n. (s.next ≤ n) × (n < s.next + count_of s samples)) numbers

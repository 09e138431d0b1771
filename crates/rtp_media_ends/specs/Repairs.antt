-- A receiving stream and a sending one, and the repairs of the sending one.
use Rattle.std.specs.Prelude.{◌≡◌, ◌≢◌, ℕ, ◌<◌, ◌^◌, ◌++◌, List, Option, Some, None}
use Rattle.rtp_wire.specs.Layout.{Layout, IsLayout, layout_bytes}
use Rattle.rtp_media_streams.specs.Receiving.{Receiving}
use Rattle.rtp_media_streams.specs.declared.types.RepairKey.{RepairKey}
use Rattle.rtp_media_streams.specs.Sending.{Sending}

-- Retransmissions have a different SSRC than the stream, and their SSRC and type fit a header.
abbrev pub IsKeyBeside : ℕ → Option RepairKey → Type 0
IsKeyBeside ssrc None = Unit {0}
IsKeyBeside ssrc (Some key) = (key.ssrc ≢ ssrc) × (key.pt < 128) × (key.ssrc < 2 ^ 32)

-- The receiving stream is the counterpart of the sending one.
pub record TakesRepairs (r : Receiving) (s : Sending) : Type 0 where
  pub ssrc : r.ssrc ≡ s.ssrc
  pub types : r.types ≡ s.types
  pub beside : IsKeyBeside s.ssrc s.types.repair
  pub number : s.repairs < 65536

-- The datagram starts with a header, correctly spelled.
pub record IsHeaded (datagram : List ℕ) : Type 0 where
  pub layout : Layout
  pub rest : List ℕ
  pub sound : IsLayout layout
  pub is : datagram ≡ layout_bytes layout ++ rest

-- Captured packets.
use Rattle.std.specs.Prelude.{ℕ, List, Option, None, Some}
use Rattle.std.specs.Borrow.{Bor}
use Rattle.media_files_captures.specs.declared.captures.CapturedPacket.{CapturedPacket}
use Rattle.media_files_captures.specs.declared.captures.Resolution.{Resolution}
use Rattle.media_files_captures.specs.declared.frames.LinkType.{LinkType}

-- When a packet came, in ticks of a resolution; how its bytes begin; how long it was, and what the capture kept of it.
pub record Packet : Type 0 where
  pub ticks : ℕ
  pub resolution : Resolution
  pub link : LinkType
  pub original_len : ℕ
  pub bytes : List ℕ

abbrev pub seen : CapturedPacket → Packet
seen p = record {
  ticks = p.ticks;
  resolution = p.resolution;
  link = p.link;
  original_len = p.original_len;
  bytes = p.bytes.now;
}

-- A packet and the bytes after it.
abbrev pub read : Option (CapturedPacket × Bor (List ℕ)) → Option (Packet × List ℕ)
read None = None
read (Some p) = Some (seen p.0, p.1.now)

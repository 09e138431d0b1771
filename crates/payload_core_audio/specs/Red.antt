-- RED payloads: older payloads, then the primary one (RFC 2198 3).
use Rattle.std.specs.Prelude.{◌≡◌, ℕ, ◌+◌, ◌*◌, ◌/◌, ◌%◌, ◌<◌, ◌≤◌, List, [], ◌∷◌, ◌++◌, All, flat_map, length}

-- A redundant block: its payload type, its timestamp offset (RTP ticks before the primary), and its payload.
pub record Block : Type 0 where
  pub pt : ℕ
  pub timestamp_offset : ℕ
  pub payload : List ℕ

-- The block fits its header: 7 bits of payload type, 14 of timestamp offset, 10 of length.
pub record HasRoom (b : Block) : Type 0 where
  pub pt : b.pt < 128
  pub timestamp_offset : b.timestamp_offset < 16384
  pub payload : length b.payload < 1024

-- The header of a redundant block: F set, payload type, timestamp offset and length, in 32 bits.
abbrev pub header : Block → List ℕ
header b = (128 + b.pt) ∷ b.timestamp_offset / 64 ∷ (b.timestamp_offset % 64 * 4 + length b.payload / 256)
    ∷ length b.payload % 256 ∷ []

-- A RED payload: the block headers, the primary header (its payload type, F clear), the block payloads, the primary
-- payload.
abbrev pub spelled : List Block → ℕ → List ℕ → List ℕ
spelled blocks pt primary = flat_map header blocks ++ (pt ∷ (flat_map (λ b. b.payload) blocks ++ primary))

-- The packet consists of these blocks, at most 32, and this primary payload with this payload type.
pub record IsRed (packet : List ℕ) (blocks : List Block) (pt : ℕ) (primary : List ℕ) : Type 0 where
  pub is_spelled : packet ≡ spelled blocks pt primary
  pub few : length blocks ≤ 32
  pub room : All HasRoom blocks
  pub primary_pt : pt < 128

-- No blocks and primary payload have this spelling.
abbrev pub IsNotRed : List ℕ → Type 0
IsNotRed packet = (blocks : List Block) (pt : ℕ) (primary : List ℕ) → IsRed packet blocks pt primary → ⊥

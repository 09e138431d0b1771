use Rattle.std.specs.Prelude.{slice_index, ℕ, ◌≡◌, ◌+◌, ◌*◌, ◌/◌, ◌<◌, ◌≤◌, ◌^◌, Bool, true, false, List, [], ◌∷◌}
use Rattle.std.specs.Prelude.{◌++◌, length, All, Option, Some, None}
use Rattle.std.specs.List.{flat_map}
use Rattle.std.specs.Int.{w16, w32, to_be_bytes}
use Rattle.rtp_wire.specs.Values.{Block}

-- A header's fields as they are on the wire (RFC 3550 5.1 and 5.3.1).
pub record Layout : Type 0 where
  pub padding : Bool
  pub marker : Bool
  pub payload_type : ℕ
  pub number : ℕ
  pub time : ℕ
  pub ssrc : ℕ
  pub csrc : List ℕ
  pub extension : Option Block

abbrev pub bit : Bool → ℕ
bit false = 0
bit true = 1

abbrev pub is_some_block : Option Block → Bool
is_some_block None = false
is_some_block (Some b) = true

-- An extension block: profile, length in words, and its words (RFC 3550 5.3.1).
abbrev pub block_bytes : Option Block → List ℕ
block_bytes None = []
block_bytes (Some b) = to_be_bytes w16 b.profile ++ to_be_bytes w16 (length b.content / 4) ++ b.content

-- V(2) P X CC(4); M PT(7); number(16); time(32); SSRC(32) (RFC 3550 5.1).
abbrev pub fixed_bytes : Layout → List ℕ
fixed_bytes l =
    (128 + 32 * bit l.padding + 16 * bit (is_some_block l.extension) + length l.csrc)
    ∷ (128 * bit l.marker + l.payload_type)
    ∷ to_be_bytes w16 l.number ++ to_be_bytes w32 l.time ++ to_be_bytes w32 l.ssrc

-- The words of the contributing sources (RFC 3550 5.1).
abbrev pub words : List ℕ → List ℕ
words csrc = flat_map (to_be_bytes w32) csrc

-- A header's bytes.
abbrev pub layout_bytes : Layout → List ℕ
layout_bytes l = fixed_bytes l ++ words l.csrc ++ block_bytes l.extension

abbrev pub IsBlock : Option Block → Type 0
IsBlock None = Unit {0}
IsBlock (Some b) = (b.profile < 2 ^ 16) × (length b.content ≡ 4 * (length b.content / 4))
    × (length b.content / 4 < 2 ^ 16)

-- What a header can say.
pub record IsLayout (l : Layout) : Type 0 where
  pub payload_type : l.payload_type < 128
  pub number : l.number < 2 ^ 16
  pub time : l.time < 2 ^ 32
  pub ssrc : l.ssrc < 2 ^ 32
  pub few : length l.csrc ≤ 15
  pub csrc : All (λ c. c < 2 ^ 32) l.csrc
  pub extension : IsBlock l.extension

-- All numbers are bytes.
abbrev pub IsBytes : List ℕ → Type 0
IsBytes bytes = (i : ℕ) → slice_index bytes i < 256

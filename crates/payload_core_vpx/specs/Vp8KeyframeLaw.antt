-- What begins a keyframe (RFC 7741 4.2 and 4.3).
use Rattle.std.specs.Prelude.{◌≡◌, ℕ, ◌/◌, ◌%◌, true, List, ◌∷◌}
use Rattle.payload_core_vpx.specs.Vp8Descriptor.{keyframe_in, parsed}

-- Only a payload with S and partition index 0 can begin a keyframe.
abbrev pub KeyframeLaw : Type 0
KeyframeLaw = (first : ℕ) (rest : List ℕ) → keyframe_in (parsed (first ∷ rest)) (first ∷ rest) ≡ true
    → (first / 16 % 2 ≡ 1) × (first % 8 ≡ 0)

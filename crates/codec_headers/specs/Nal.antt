-- Payloads of NAL units (H.264 7.3.1 and 7.4.1, H.265 7.3.1.1 and 7.4.2).
use Rattle.std.specs.Prelude.{ℕ, ◌==◌, ◌&&◌, List, [], ◌∷◌, ◌++◌, if◌then◌else◌}

-- A byte 3 after two bytes 0 is no part of the payload (emulation_prevention_three_byte).
abbrev pub kept : ℕ → ℕ → ℕ → List ℕ
kept before last byte = if (before == 0) && (last == 0) && (byte == 3) then [] else byte ∷ []

unfoldable pub payload_after : ℕ → ℕ → List ℕ → List ℕ
payload_after before last [] = []
payload_after before last (byte ∷ bytes) = kept before last byte ++ payload_after last byte bytes

-- Nothing is in front of a unit.
abbrev pub payload : List ℕ → List ℕ
payload bytes = payload_after 255 255 bytes

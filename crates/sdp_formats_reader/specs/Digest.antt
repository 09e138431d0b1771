-- Fingerprints of certificates (RFC 8122 5).
use Rattle.std.specs.Prelude.{ℕ, ◌+◌, ◌-◌, ◌*◌, ◌&&◌, List, [], ◌∷◌, Option, Some, None, nat_le, if◌then◌else◌}
use Rattle.sdp_formats_grammar.specs.Bind.{◌>>=◌}
use Rattle.sdp_formats_grammar.specs.Form.{Form, told, any_text, made, cut, separated}
use Rattle.sdp_formats_values.specs.Fingerprints.{make_fingerprint}
use Rattle.sdp_formats_values.specs.declared.fingerprint.Fingerprint.{Fingerprint}

-- A hexadecimal digit, upper or lower case.
abbrev pub hex_digit : ℕ → Option ℕ
hex_digit c =
    if nat_le 48 c && nat_le c 57 then Some (c - 48)
    else if nat_le 65 c && nat_le c 70 then Some (c - 65 + 10)
    else if nat_le 97 c && nat_le c 102 then Some (c - 97 + 10)
    else None

-- A byte in two of them.
abbrev pub hex_byte : List ℕ → Option ℕ
hex_byte [] = None
hex_byte (a ∷ []) = None
hex_byte (a ∷ b ∷ []) = hex_digit a >>= λ high. hex_digit b >>= λ low. Some (high * 16 + low)
hex_byte (a ∷ b ∷ c ∷ more) = None

-- `FUNCTION XX:XX:..` (RFC 8122 5)
abbrev pub fingerprint : Form Fingerprint
fingerprint = made make_fingerprint (cut 32 any_text (separated 58 (told hex_byte)))

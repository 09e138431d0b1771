-- Fingerprints read from texts, with bytes read as Rust reads hexadecimal numbers.
use Rattle.std.specs.Prelude.{◌≡◌, ℕ, ◌^◌, Bool, true, ◌&&◌, List, [], ◌∷◌, length, nat_lt, Option, Some, None}
use Rattle.std.specs.Prelude.{Result, Ok, Err, if◌then◌else◌, codes}
use Rattle.std.specs.Char.{digit_value}
use Rattle.std.specs.Str.Parse.{without_leading_plus, digits_value}
use Rattle.sdp_formats_grammar.specs.Form.{Form, told, made, cut, separated}
use Rattle.sdp_formats_values.specs.declared.fingerprint_reader.FingerprintError.{FingerprintError}
use Rattle.sdp_formats_values.specs.declared.fingerprint_reader.FingerprintError.TheVariants.{Malformed, Memory}
use Rattle.sdp_formats_values.specs.Fingerprints.{make_fingerprint}
use Rattle.sdp_formats_values.specs.declared.fingerprint.Fingerprint.{Fingerprint}

-- Whether each byte is a hexadecimal digit.
abbrev pub all_hex : List ℕ → Bool
all_hex [] = true
all_hex (c ∷ cs) = nat_lt (digit_value c) 16 && all_hex cs

-- The value of one or more hexadecimal digits, with an optional leading plus, if it is below 256.
abbrev pub hex_number : List ℕ → Option ℕ
hex_number text =
    if nat_lt 0 (length (without_leading_plus text)) && all_hex (without_leading_plus text)
    && nat_lt (digits_value 16 (without_leading_plus text)) (2 ^ 8)
    then Some (digits_value 16 (without_leading_plus text))
    else None

-- A name (maybe empty) up to the first blank, then numbers separated by colons.
abbrev pub print_in_text : Form Fingerprint
print_in_text = made make_fingerprint (cut 32 (told Some) (separated 58 (told hex_number)))

-- A text gives the fingerprint it says, and Malformed if and only if it says none.
abbrev pub IsFromText : Result Fingerprint FingerprintError → Option Fingerprint → Type 0
IsFromText (Ok print) said = said ≡ Some print
IsFromText (Err Malformed) said = said ≡ None
IsFromText (Err Memory) said = Unit {0}

-- An error as it is printed.
abbrev pub error_text : FingerprintError → List ℕ
error_text Malformed = codes "no fingerprint"
error_text Memory = codes "out of memory"

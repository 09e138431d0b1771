-- The header of an H.265 unit or packet as one number of 16 bits (RFC 7798 1.1.4).
use Rattle.std.specs.Prelude.{ℕ, ◌+◌, ◌*◌, ◌/◌, ◌%◌, ◌&&◌, Bool, nat_le}

abbrev pub header_word : ℕ → ℕ → ℕ → ℕ
header_word type layer tid = type * 512 + layer * 8 + tid

abbrev pub word_has_f : ℕ → Bool
word_has_f word = nat_le 32768 word

abbrev pub word_type : ℕ → ℕ
word_type word = word / 512 % 64

abbrev pub word_layer : ℕ → ℕ
word_layer word = word / 8 % 64

abbrev pub word_tid : ℕ → ℕ
word_tid word = word % 8

-- The types of IDR pictures.
abbrev pub is_idr : ℕ → Bool
is_idr type = nat_le 19 type && nat_le type 20

-- The header of an H.266 unit or packet as one number of 16 bits (RFC 9328 1.1.4), and P of a fragment (4.3.3).
use Rattle.std.specs.Prelude.{ℕ, ◌+◌, ◌*◌, ◌/◌, ◌%◌, ◌==◌, Bool, nat_le}

-- F and Z are clear.
abbrev pub header_word : ℕ → ℕ → ℕ → ℕ
header_word type layer tid = layer % 64 * 256 + type % 32 * 8 + tid % 8

abbrev pub word_has_f : ℕ → Bool
word_has_f word = nat_le 32768 word

abbrev pub word_has_z : ℕ → Bool
word_has_z word = word / 16384 % 2 == 1

abbrev pub word_layer : ℕ → ℕ
word_layer word = word / 256 % 64

abbrev pub word_type : ℕ → ℕ
word_type word = word / 8 % 32

abbrev pub word_tid : ℕ → ℕ
word_tid word = word % 8

abbrev pub has_picture_end : ℕ → Bool
has_picture_end fu = fu / 32 % 2 == 1
